-- Tickets, rights and openings of two workers whose calls are in one history.
use Rattle.std.proofs.Common.{◌≡◌, ◌≢◌, ℕ, false, List, Some, sym, ◌∙◌, subst, true≢false}
use Rattle.scheduler.specs.declared.entry.Entry.{Entry}
use Rattle.scheduler.specs.MoveTable.{MoveTable}
use Rattle.scheduler.specs.State.{is_pending, IsFilling}
use Rattle.scheduler.specs.History.{IsLegal, AgreeOn, calls_by, state_of}
use Rattle.claim_board.specs.declared.tokens.ticket.Ticket.{Ticket}
use Rattle.claim_board.specs.declared.tokens.opening.Opening.{Opening}
use Rattle.claim_board.specs.declared.tokens.right.Right.{Right}
use Rattle.claim_board.specs.Callers.{Caller, own}
use Rattle.claim_board.specs.Tickets.{IsTicketOf, IsRightOf, IsOpeningOf}
use Rattle.claim_board.proofs.Lemmas.Premises.{Reached, Own}
use Rattle.claim_board.proofs.Lemmas.Effects.{own_of, agree, pending_as}

-- for a region that the caller fills, its own calls and the history agree
told_of : Own → (m : MoveTable) (n : ℕ) (log : List Entry) (c : Caller) (r : ℕ) → IsLegal m n log → calls_by c.worker log ≡ c.mine → IsFilling (own c) c.worker r → AgreeOn r (own c) (state_of log)
told_of law m n log c r legal calls filling = agree m c.worker r (own c) (state_of log) (own_of law m n c.worker c.mine log legal calls) filling.0

-- no region that one of them fills reads a region that the other fills
none_pending : Reached → Own → (m : MoveTable) (n : ℕ) (log : List Entry) (one other : Caller) (r d : ℕ) → IsLegal m n log → calls_by one.worker log ≡ one.mine → calls_by other.worker log ≡ other.mine
    → IsFilling (own one) one.worker r → IsFilling (own other) other.worker d → is_pending m (own other) d r ≡ false
none_pending reached law m n log one other r d legal first second is at =
    let here = told_of law m n log one r legal first is in
    let held : (state_of log).claimed r ≡ Some one.worker = sym here.claimed ∙ is.0 in
    pending_as m d r (own other) (state_of log) (told_of law m n log other d legal second at) ∙ (reached m n log legal).claimed_read d r one.worker held

-- nothing that is still to be read lies in a region of a right
pub none_waits : Reached → Own → (m : MoveTable) (workers : ℕ) (log : List Entry) (one : Caller) (right : Right) (destination : ℕ) → IsLegal m workers log → calls_by one.worker log ≡ one.mine
    → IsRightOf one right → is_pending m (state_of log) destination right.region ≡ false
none_waits reached law m n log one right destination legal calls is =
    let here = told_of law m n log one right.region legal calls is in
    (reached m n log legal).claimed_read destination right.region one.worker (sym here.claimed ∙ is.0)

pub nothing_read : Reached → Own → (m : MoveTable) (workers : ℕ) (log : List Entry) (one other : Caller) (t u : Ticket) → IsLegal m workers log → calls_by one.worker log ≡ one.mine → calls_by other.worker log ≡ other.mine
    → IsTicketOf m one t → IsTicketOf m other u → is_pending m (own other) u.region t.region ≡ false
nothing_read reached law m n log one other t u legal first second is at = none_pending reached law m n log one other t.region u.region legal first second is.filling at.filling

pub not_read : Reached → Own → (m : MoveTable) (workers : ℕ) (log : List Entry) (one other : Caller) (right : Right) (opening : Opening) → IsLegal m workers log → calls_by one.worker log ≡ one.mine → calls_by other.worker log ≡ other.mine
    → IsRightOf one right → IsOpeningOf m other opening → opening.source ≢ right.region
not_read reached law m n log one other right opening legal first second is at e =
    let none = none_pending reached law m n log one other right.region opening.destination legal first second is at.0 in
    true≢false (sym at.1 ∙ subst (λ (s : ℕ). is_pending m (own other) opening.destination s ≡ false) (sym e) none)
