use Rattle.std.proofs.Common.{◌≡◌, length}
use Rattle.box_row.specs.Rows as rows
use Rattle.scheduler.specs.MoveTable.{MoveTable}
use Rattle.claim_board.specs.Places.{ArePlaces}
use Rattle.claim_board.specs.Unions.{AreReady, AreUnited, AreEmptied}
use Rattle.claim_board.proofs.regions.uniting.unite_all.Given as goal

abbrev pub invariant-loop-region : goal.invariant-loop-region
invariant-loop-region g l =
    let items = g.S.SlotValues.items in
    let is_left = g.S.SlotValues.is_left in
    (length (rows.items l.row) ≡ l.region)
    × rows.IsSameRow l.fn.row l.row
    × ((m : MoveTable) → ArePlaces m l.places → AreReady m (items l.fn.values) (is_left l.fn.values) → AreUnited m l.region (items l.fn.values) (items l.values) (rows.items l.row) × AreEmptied m l.region (is_left l.fn.values) (is_left l.values))
