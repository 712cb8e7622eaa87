use Rattle.std.proofs.Common.{◌≡◌, ◌-◌}
use Rattle.claim_board.specs.Boards.{moves, identity, board_of, caller}
use Rattle.claim_board.specs.Tickets.{IsTicketOf, IsSwept}
use Rattle.scheduling_tests.proofs.threads.fill.Given as goal

abbrev pub invariant-loop-opening : goal.invariant-loop-opening
invariant-loop-opening l = (board_of l.pass ≡ identity l.board) × IsTicketOf (moves l.board) (caller l.pass) l.ticket × (l.ticket.region ≡ l.region) × IsSwept (moves l.board) (caller l.pass) l.ticket

abbrev pub decreases-loop-opening : goal.decreases-loop-opening
decreases-loop-opening l = 4294967296 - l.ticket.next
