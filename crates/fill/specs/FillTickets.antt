-- The ticket of a fill, at its start and at its end.
use Rattle.std.specs.Prelude.{◌≡◌, ℕ}
use Rattle.scheduler.specs.MoveTable.{MoveTable}
use Rattle.claim_board.specs.declared.tokens.ticket.Ticket.{Ticket}
use Rattle.claim_board.specs.Callers.{Caller}
use Rattle.claim_board.specs.Tickets.{IsTicketOf}

-- the caller's ticket of region d, with no source opened yet
pub record IsUnopened (m : MoveTable) (c : Caller) (d : ℕ) (t : Ticket) : Type 0 where
  pub region : t.region ≡ d
  pub unopened : t.next ≡ 0
  pub claimed : IsTicketOf m c t

-- the same ticket with no source left, which is still the caller's
pub record IsSpent (m : MoveTable) (c : Caller) (before after : Ticket) : Type 0 where
  pub region : after.region ≡ before.region
  pub from : after.from ≡ before.from
  pub claimed : IsTicketOf m c after
  pub none_left : after.left ≡ 0
