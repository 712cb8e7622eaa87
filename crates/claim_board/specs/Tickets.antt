-- What a ticket, and the values made from it, say about the caller that claimed it.
use Rattle.std.specs.Prelude.{◌≡◌, ◌≢◌, ℕ, ◌<◌, ◌≤◌, false, IsTrue, Option, Some, option_map}
use Rattle.atomic_table.specs.Seated.{TableId}
use Rattle.scheduler.specs.declared.event.Event.{Event}
use Rattle.scheduler.specs.declared.event.Event.TheVariants.{Claim, Look, Drain, Complete, Settle, Poll, Copy}
use Rattle.scheduler.specs.MoveTable.{MoveTable, region_count, reads}
use Rattle.scheduler.specs.State.{is_pending, IsFilling}
use Rattle.scheduler.specs.Scheduler.{sources_left}
use Rattle.claim_board.specs.declared.tokens.ticket.Ticket.{Ticket}
use Rattle.claim_board.specs.declared.tokens.opening.Opening.{Opening}
use Rattle.claim_board.specs.declared.tokens.closed.Closed.{Closed}
use Rattle.claim_board.specs.declared.tokens.right.Right.{Right}
use Rattle.claim_board.specs.declared.tokens.written.Written.{Written}
use Rattle.claim_board.specs.declared.tokens.done.Done.{Done}
use Rattle.claim_board.specs.Views.{worker_of}
use Rattle.claim_board.specs.Callers.{Caller, own}

-- the board that granted the ticket, and the worker that claimed it; none for a recorder's ticket
abbrev pub ticket_board : Ticket → Option TableId
ticket_board t = option_map (λ place. place.value.table_id) t.from

abbrev pub ticket_claimant : Ticket → Option ℕ
ticket_claimant t = option_map (λ place. worker_of place.value.me.0) t.from

-- no source is opened, and the right isn't out
abbrev pub IsUnused : Ticket → Type 0
IsUnused t = (t.next ≡ 0) × (t.right_is_out ≡ false)

-- The caller claimed the ticket's region and hasn't completed it. No source from `next` on is drained for it, and `left`
-- counts the sources that aren't drained.
pub record IsTicketOf (m : MoveTable) (c : Caller) (t : Ticket) : Type 0 where
  pub board : ticket_board t ≡ Some c.board
  pub worker : ticket_claimant t ≡ Some c.worker
  pub inside : t.region < region_count m
  pub filling : IsFilling (own c) c.worker t.region
  pub unsettled : (own c).settled t.region ≡ false
  pub ahead : (s : ℕ) → t.next ≤ s → (own c).drained t.region s ≡ false
  pub left : t.left ≡ sources_left m (own c) t.region

-- the right is to a region that the caller claimed and hasn't completed
abbrev pub IsRightOf : Caller → Right → Type 0
IsRightOf c x = IsFilling (own c) c.worker x.region

-- the opening is of a pair of such a region that the caller hasn't drained
abbrev pub IsOpeningOf : MoveTable → Caller → Opening → Type 0
IsOpeningOf m c x = IsFilling (own c) c.worker x.destination × IsTrue (is_pending m (own c) x.destination x.source)

-- The opening came from the ticket, which counts its pair as undrained.
pub record IsClosedOf (m : MoveTable) (c : Caller) (t : Ticket) (x : Closed) : Type 0 where
  pub board : ticket_board x.ticket.value ≡ ticket_board t
  pub worker : ticket_claimant x.ticket.value ≡ ticket_claimant t
  pub destination : x.destination ≡ t.region
  pub opened : x.source < t.next
  pub undrained : IsTrue (is_pending m (own c) x.destination x.source)

-- the right came from the ticket
pub record IsWrittenOf (t : Ticket) (x : Written) : Type 0 where
  pub board : ticket_board x.ticket.value ≡ ticket_board t
  pub worker : ticket_claimant x.ticket.value ≡ ticket_claimant t
  pub region : x.region ≡ t.region

-- The caller has completed the region and not settled it.
pub record IsDoneOf (c : Caller) (d : Done) : Type 0 where
  pub board : option_map (λ place. place.value.table_id) d.from ≡ Some c.board
  pub claimed : (own c).claimed d.region ≡ Some c.worker
  pub filled : IsTrue ((own c).filled d.region)
  pub unsettled : (own c).settled d.region ≡ false

-- all sources below the ticket's `next` are drained
abbrev pub IsSwept : MoveTable → Caller → Ticket → Type 0
IsSwept m c t = (s : ℕ) → s < t.next → IsTrue (reads m t.region s) → IsTrue ((own c).drained t.region s)

-- The event doesn't change the state of this region if the event's worker has claimed it.
abbrev pub Spares : ℕ → Event → Type 0
Spares r (Claim q) = Unit {0}
Spares r (Look q) = Unit {0}
Spares r (Drain d s) = r ≢ d
Spares r (Complete d) = r ≢ d
Spares r (Settle d) = r ≢ d
Spares r Poll = Unit {0}
Spares r (Copy d n) = Unit {0}
