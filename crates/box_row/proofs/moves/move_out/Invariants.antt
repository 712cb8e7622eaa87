use Rattle.std.proofs.Common.{◌≡◌, ℕ, ◌≤◌, ◌++◌, reverse}
use lib.ListN.{take}
use Rattle.core.specs.Mem.Slots.{slots_filled, slots_items, slots_len, SamePlaces}
use Rattle.core.specs.Mem.Slots.Ownership.{Filled}
use Rattle.std_alloc.specs.Vec.{vec_capacity}
use Rattle.box_row.proofs.moves.move_out.Given as goal

abbrev pub invariant-loop-i : goal.invariant-loop-i
invariant-loop-i g l =
    (l.i ≤ slots_len l.places)
    × (l.values.items ++ reverse (take l.i (slots_items l.initial.places)) ≡ reverse (slots_items l.initial.places))
    × (slots_items l.places ≡ slots_items l.initial.places)
    × Filled (slots_filled l.places) 0 l.i
    × SamePlaces l.initial.places l.places
    × (vec_capacity l.values ≡ vec_capacity l.initial.values)

abbrev pub decreases-loop-i : goal.decreases-loop-i
decreases-loop-i g l = l.i
