use Rattle.std.proofs.Common.{◌≡◌, ◌-◌}
use Rattle.claim_board.specs.Boards.{moves, identity, board_of, caller}
use Rattle.claim_board.specs.Tickets.{IsTicketOf}
use Rattle.claim_board.specs.Others.{LeavesOthers}
use Rattle.scheduling_tests.proofs.tickets.drains.Given as goal

abbrev pub invariant-loop-opening : goal.invariant-loop-opening
invariant-loop-opening l =
    (board_of l.pass ≡ identity l.board)
    × (board_of l.notes.watch ≡ identity l.board)
    × (l.ticket.region ≡ l.fn.ticket.region)
    × IsTicketOf (moves l.board) (caller l.pass) l.ticket
    × LeavesOthers (moves l.board) l.fn.ticket.region (caller l.fn.pass) (caller l.pass)

abbrev pub decreases-loop-opening : goal.decreases-loop-opening
decreases-loop-opening l = 4294967296 - l.ticket.next
