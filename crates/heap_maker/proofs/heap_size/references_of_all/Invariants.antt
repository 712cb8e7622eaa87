use Rattle.std.proofs.Common.{◌≡◌, ◌≤◌, ◌*◌, take}
use Rattle.std.specs.Prelude.{sum_by}
use Rattle.heap_maker.specs.HeapSize.{held_references}
use Rattle.heap_maker.proofs.heap_size.references_of_all.Given as goal

-- the sum so far, and how large it can be
abbrev pub invariant-loop-a : goal.invariant-loop-a
invariant-loop-a l = record {
  sum : l.count ≡ sum_by (held_references l.image) (take l.a-index l.image.live);
  few : l.count ≤ 16777215 * l.a-index;
}
