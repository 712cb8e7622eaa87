use Rattle.std.proofs.Common.{◌≡◌, ◌≤◌, length}
use Rattle.std.specs.Prelude.{map}
use Rattle.std.specs.List.{range_with_len}
use Rattle.std.specs.Vec.{vec_capacity}
use Rattle.region_cells.specs.Cells.{place_of}
use Rattle.region_cells.proofs.cells.put_all.Given as goal

abbrev pub invariant-loop-region : goal.invariant-loop-region
invariant-loop-region l =
    (goal.iterator-loop-region).can_next l.region-iterator ×
    (goal.iterator-loop-region).is_finite l.region-iterator ×
    (l.place ≡ place_of l.fn.first.image (length l.yielded)) ×
    (l.slots.items ≡ map (place_of l.fn.first.image) (range_with_len 0 (length l.yielded))) ×
    (l.fn.count ≤ vec_capacity l.slots)
