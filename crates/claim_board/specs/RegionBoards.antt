-- What contracts see of a board that keeps regions.
use Rattle.std.specs.Prelude.{ℕ, List, Some}
use Rattle.atomic_table.specs.Seated.{TableId}
use Rattle.read_shares.specs.declared.share.ReadShare.{ReadShare}
use Rattle.box_row.specs.declared.place.InRow.{InRow}
use Rattle.box_row.specs.Rows as rows
use Rattle.scheduler.specs.MoveTable.{MoveTable}
use Rattle.claim_board.specs.declared.pass.Pass.{Pass}
use Rattle.claim_board.specs.declared.regions.holding.Holding.TheVariants.{Share}
use Rattle.claim_board.specs.declared.regions.region_board.RegionBoard.{RegionBoard}
use Rattle.claim_board.specs.declared.regions.region_ticket.RegionTicket.{RegionTicket}
use Rattle.claim_board.specs.Boards.{held}
use Rattle.claim_board.specs.Holdings.{words_of, in_region}
use Rattle.claim_board.specs.Holds.{IsHolding, IsReading}
use Rattle.claim_board.specs.Slots.{moved_of}

abbrev pub moves : RegionBoard → MoveTable
moves b = b.table.shared.key.moves

abbrev pub worker_count : RegionBoard → ℕ
worker_count b = b.table.shared.key.workers

-- the identity of the board
abbrev pub identity : RegionBoard → TableId
identity b = b.table.shared.table_id

-- the words of the region before it is filled
abbrev pub original_words : RegionBoard → ℕ → List ℕ
original_words b r = words_of (in_region (moves b) b.table.shared.key.values.value.items r)

-- the words of the region once it is filled
abbrev pub moved_words : RegionBoard → ℕ → List ℕ
moved_words b r = words_of (moved_of b.table.shared.key r)

-- the place in which the region lies
abbrev pub spot : RegionBoard → ℕ → InRow
spot b r = rows.spot b.row r

-- the pass holds the rights to read the sources of the ticket's region that aren't opened, and none is open
abbrev pub Holds : RegionBoard → RegionTicket → Pass → Type 0
Holds b t p = IsHolding b.table.shared.key t.ticket.region t.ticket.next t.at (held p)

-- the same while this source is open, which is read by this share
abbrev pub Reads : RegionBoard → RegionTicket → ℕ → ReadShare (List ℕ) → Pass → Type 0
Reads b t source share p = IsReading b.table.shared.key t.ticket.region source t.ticket.next t.at (Some (Share share)) (held p)
