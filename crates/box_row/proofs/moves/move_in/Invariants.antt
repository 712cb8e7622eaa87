use Rattle.std.proofs.Common.{◌≡◌, ℕ, ◌+◌, ◌++◌, length, reverse}
use lib.ListN.{take}
use Rattle.core.specs.Mem.Slots.{slots_filled, slots_items, slots_len, SamePlaces}
use Rattle.core.specs.Mem.Slots.Ownership.{Filled}
use Rattle.std_alloc.specs.Vec.{vec_capacity}
use Rattle.box_row.proofs.moves.move_in.Given as goal

abbrev pub invariant-loop-x : goal.invariant-loop-x
invariant-loop-x g l =
    (l.i + length l.values.items ≡ slots_len l.places)
    × (l.values.items ++ reverse (take l.i (slots_items l.places)) ≡ l.initial.values.items)
    × Filled (slots_filled l.places) 0 l.i
    × SamePlaces l.initial.places l.places
    × (vec_capacity l.values ≡ vec_capacity l.initial.values)

abbrev pub decreases-loop-x : goal.decreases-loop-x
decreases-loop-x g l = length l.values.items
