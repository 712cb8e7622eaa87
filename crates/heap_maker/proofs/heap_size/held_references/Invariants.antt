use Rattle.std.proofs.Common.{◌≡◌, ◌≤◌}
use Rattle.std.specs.Prelude.{count_by, map, not, ◌==◌}
use Rattle.std.specs.List.{range_with_len}
use Rattle.object_heap.specs.HeapImage.{reference_at}
use Rattle.heap_maker.proofs.heap_size.held_references.Given as goal

-- the references so far that are not null
abbrev pub invariant-loop-f : goal.invariant-loop-f
invariant-loop-f l = record {
  count : l.held ≡ count_by (λ w. not (w == 0)) (map (reference_at l.image l.a) (range_with_len 0 l.f));
  few : l.held ≤ l.f;
}
