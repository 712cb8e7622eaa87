use Rattle.std.proofs.Common.{◌≡◌, map, length}
use Rattle.heap_marking.specs.Boxes.{AreEmpty}
use Rattle.heap_marking.proofs.marking.boxes.Boxes.new.Given as goal

abbrev pub invariant-loop : goal.invariant-loop
invariant-loop l = record {
  empty : AreEmpty (map (λ v. v.items) l.boxes.items);
  count : length l.boxes.items ≡ l.counter;
}
