use Rattle.std.proofs.Common.{◌≡◌}
use Rattle.claim_board.specs.Boards.{board_of, caller}
use Rattle.claim_board.specs.RegionBoards.{moves, identity, Holds}
use Rattle.claim_board.specs.Tickets.{IsTicketOf}
use Rattle.scheduling_tests.proofs.recorder.copy_all.Given as goal

abbrev pub invariant-loop-words : goal.invariant-loop-words
invariant-loop-words g l =
    (board_of l.seat.pass ≡ identity l.setting.recorder.board)
    × IsTicketOf (moves l.setting.recorder.board) (caller l.seat.pass) l.ticket.ticket
    × (l.ticket.ticket.region ≡ l.fn.ticket.ticket.region)
    × Holds l.setting.recorder.board l.ticket l.seat.pass
