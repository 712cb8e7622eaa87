use Rattle.std.proofs.Common.{◌≡◌, ◌+◌, ◌≤◌, ◌++◌, take, length, vec_len}
use Rattle.std.specs.Prelude.{map}
use Rattle.std.specs.Vec.{vec_capacity}
use Rattle.region_cells.specs.Blocks.{final_block}
use Rattle.region_cells.proofs.cells.put_back.Given as goal

-- the regions so far stand behind the others
abbrev pub invariant-loop-r : goal.invariant-loop-r
invariant-loop-r l =
    (goal.iterator-loop-r).can_next l.r-iterator ×
    (goal.iterator-loop-r).is_finite l.r-iterator ×
    (l.regions.items ≡ l.fn.regions.items ++ map (final_block l.fn.has_moved) (take (length l.yielded) l.fn.slots.items)) ×
    (length l.fn.slots.items + vec_len l.fn.regions ≤ vec_capacity l.regions)
