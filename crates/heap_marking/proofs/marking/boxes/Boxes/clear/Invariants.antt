use Rattle.std.proofs.Common.{◌≡◌, map, length}
use Rattle.heap_marking.proofs.Lemmas.Rows.{EmptyBelow}
use Rattle.heap_marking.proofs.marking.boxes.Boxes.clear.Given as goal

abbrev pub invariant-loop-k : goal.invariant-loop-k
invariant-loop-k l = record {
  empty : EmptyBelow l.k (map (λ v. v.items) l.self-inside.boxes.items);
  count : length l.self-inside.boxes.items ≡ length l.initial.self-inside.boxes.items;
}
