use Rattle.std.proofs.Common.{◌≡◌, ◌-◌}
use Rattle.claim_board.specs.Boards.{moves, board_of, worker, mine, caller}
use Rattle.claim_board.specs.Tickets.{IsTicketOf, IsSwept}
use Rattle.board_sweep.specs.Tallies.{Adds, none}
use Rattle.board_sweep.proofs.sweeper.fill.Given as goal

abbrev pub invariant-loop-opening : goal.invariant-loop-opening
invariant-loop-opening g l = (board_of l.pass ≡ board_of l.initial.pass)
    × (worker l.pass ≡ worker l.initial.pass)
    × IsTicketOf (moves l.board) (caller l.pass) l.ticket
    × (l.ticket.region ≡ l.fn.ticket.region)
    × (l.ticket.right_is_out ≡ l.fn.ticket.right_is_out)
    × IsSwept (moves l.board) (caller l.pass) l.ticket
    × Adds l.ticket.region none (mine l.fn.pass) (mine l.pass)

abbrev pub decreases-loop-opening : goal.decreases-loop-opening
decreases-loop-opening g l = 4294967296 - l.ticket.next
