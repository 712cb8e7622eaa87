use Rattle.std.proofs.Common.{◌≡◌, ◌<◌, ◌≤◌, ℕ, [], length}
use Rattle.std.specs.Prelude.{slice_index_or}
use Rattle.box_row.specs.Rows.{IsSameRow, items, spot}
use Rattle.scheduler.specs.MoveTable.{MoveTable, IsMoveTable}
use Rattle.claim_board.specs.Places.{ArePlaces}
use Rattle.claim_board.specs.Sharings.{AreSharedFrom}
use Rattle.claim_board.specs.Slots.{all_slots}
use Rattle.claim_board.proofs.Lemmas.Lists.{EndsIn}
use Rattle.claim_board.proofs.regions.sharing.share_all.Given as goal

abbrev pub invariant-loop-whole : goal.invariant-loop-whole
invariant-loop-whole l =
    EndsIn (items l.fn.row) (items l.row)
    × IsSameRow l.fn.row l.row
    × (length l.values.items ≡ length l.fn.values.items)
    × ((m : MoveTable) → IsMoveTable m → ArePlaces m l.places → length l.values.items ≡ all_slots m → AreSharedFrom m (length (items l.row)) (λ r. slice_index_or (items l.fn.row) r []) (spot l.fn.row) l.values.items)

abbrev pub decreases-loop-whole : goal.decreases-loop-whole
decreases-loop-whole l = length (items l.row)
