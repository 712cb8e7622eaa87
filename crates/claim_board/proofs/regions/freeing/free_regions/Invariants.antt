use Rattle.std.proofs.Common.{◌≡◌}
use Rattle.std.specs.Prelude.{slice_index_or, false}
use Rattle.std.specs.Mem.Slots.{slots_items, slots_filled}
use Rattle.scheduler.specs.MoveTable.{MoveTable}
use Rattle.claim_board.specs.Homes.{AreAsWordsSay, AreFreed}
use Rattle.claim_board.specs.Places.{ArePlaces}
use Rattle.claim_board.specs.Unions.{left_in}
use Rattle.claim_board.proofs.regions.freeing.free_regions.Given as goal

abbrev pub invariant-loop-region : goal.invariant-loop-region
invariant-loop-region l =
    (slots_items l.closed.words ≡ slots_items l.fn.closed.words)
    × (slots_filled l.closed.words ≡ slots_filled l.fn.closed.words)
    × ((m : MoveTable) → ArePlaces m l.places → AreAsWordsSay m (slots_items l.fn.closed.words) (slots_items l.fn.closed.slots)
    → AreFreed m l.region (slots_items l.fn.closed.slots) (left_in (slots_items l.closed.slots) (slots_filled l.closed.slots)) (λ k. slice_index_or (slots_filled l.fn.closed.slots) k false) (λ k. slice_index_or (slots_filled l.closed.slots) k false))
