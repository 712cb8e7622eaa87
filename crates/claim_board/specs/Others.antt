-- What a caller's calls for one region leave of its values for others.
use Rattle.std.specs.Prelude.{◌≢◌, ℕ}
use Rattle.scheduler.specs.MoveTable.{MoveTable}
use Rattle.claim_board.specs.declared.tokens.done.Done.{Done}
use Rattle.claim_board.specs.declared.tokens.ticket.Ticket.{Ticket}
use Rattle.claim_board.specs.Callers.{Caller}
use Rattle.claim_board.specs.Tickets.{IsTicketOf, IsDoneOf}

-- Its tickets for other regions, and its completions of them, stay valid.
pub record LeavesOthers (m : MoveTable) (r : ℕ) (old new : Caller) : Type 0 where
  pub tickets : (t : Ticket) → t.region ≢ r → IsTicketOf m old t → IsTicketOf m new t
  pub dones : (d : Done) → d.region ≢ r → IsDoneOf old d → IsDoneOf new d
