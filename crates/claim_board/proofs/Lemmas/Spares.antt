-- What calls leave of a right and of an opening.
use Rattle.std.proofs.Common.{◌≡◌, ◌≢◌, ◌⊎◌, ℕ, Bool, true, false, cond, Some, refl, sym, ap, ◌∙◌, subst, inl, inr}
use Rattle.std.specs.Prelude.{◌&&◌, ◌||◌, ◌==◌, not}
use Rattle.scheduler.specs.declared.event.Event.{Event}
use Rattle.scheduler.specs.declared.event.Event.TheVariants.{Claim, Look, Drain, Complete, Settle, Poll, Copy}
use Rattle.scheduler.specs.declared.reply.Reply.{Reply}
use Rattle.scheduler.specs.declared.reply.Reply.TheVariants.{Yes}
use Rattle.scheduler.specs.MoveTable.{reads}
use Rattle.scheduler.specs.State.{State, state_after, IsFilling}
use Rattle.claim_board.specs.declared.board.Board.{Board}
use Rattle.claim_board.specs.declared.pass.Pass.{Pass}
use Rattle.claim_board.specs.declared.tokens.opening.Opening.{Opening}
use Rattle.claim_board.specs.declared.tokens.right.Right.{Right}
use Rattle.claim_board.specs.Boards.{moves, caller, Appends}
use Rattle.claim_board.specs.Callers.{Caller, own, Gains}
use Rattle.claim_board.specs.Tickets.{IsRightOf, IsOpeningOf}
use Rattle.claim_board.proofs.Lemmas.Logs.{tested}
use Rattle.claim_board.proofs.Lemmas.Sweeps.{gained}
use Rattle.claim_board.proofs.Lemmas.Others.{gains_call}

-- a worker's call other than its completion leaves a region filling
fills_on : (w d : ℕ) (st : State) (event : Event) (reply : Reply) → IsFilling st w d → event ≢ Complete d → IsFilling (state_after st w event reply) w d
fills_on w d st (Claim q) Yes f apart = (again (d == q), f.1)
  where
    again : (b : Bool) → cond b (Some w) (st.claimed d) ≡ Some w
    again true = refl
    again false = f.0
fills_on w d st (Claim q) reply f apart = f
fills_on w d st (Look q) reply f apart = f
fills_on w d st (Drain e s) reply f apart = f
fills_on w d st (Complete e) reply f apart = (f.0, go (tested d e))
  where
    go : ((d ≡ e) × ((d == e) ≡ true)) ⊎ ((d ≢ e) × ((d == e) ≡ false)) → (d == e || st.filled d) ≡ false
    go (inl same) = absurd (apart (ap Complete (sym same.0)))
    go (inr other) = ap (λ (b : Bool). b || st.filled d) other.1 ∙ f.1
fills_on w d st (Settle e) reply f apart = f
fills_on w d st Poll reply f apart = f
fills_on w d st (Copy e n) reply f apart = f

-- a call other than its drain leaves a pair as it was
pair_stays : (w d s : ℕ) (st : State) (event : Event) (reply : Reply) → event ≢ Drain d s → (state_after st w event reply).drained d s ≡ st.drained d s
pair_stays w d s st (Claim q) Yes apart = refl
pair_stays w d s st (Claim q) reply apart = refl
pair_stays w d s st (Look q) reply apart = refl
pair_stays w d s st (Drain e t) reply apart = ap (λ (b : Bool). b || st.drained d s) (go (tested d e) (tested s t))
  where
    go : ((d ≡ e) × ((d == e) ≡ true)) ⊎ ((d ≢ e) × ((d == e) ≡ false)) → ((s ≡ t) × ((s == t) ≡ true)) ⊎ ((s ≢ t) × ((s == t) ≡ false)) → (d == e && s == t) ≡ false
    go (inr other) z = ap (λ (b : Bool). b && s == t) other.1
    go (inl same) (inr other) = ap (λ (b : Bool). b && s == t) same.1 ∙ other.1
    go (inl same) (inl too) = absurd (apart (ap (λ x. Drain x t) (sym same.0) ∙ ap (Drain d) (sym too.0)))
pair_stays w d s st (Complete e) reply apart = refl
pair_stays w d s st (Settle e) reply apart = refl
pair_stays w d s st Poll reply apart = refl
pair_stays w d s st (Copy e n) reply apart = refl

-- the same for the caller that gains the call
fills_after : (old new : Caller) (d : ℕ) (event : Event) (reply : Reply) → IsFilling (own old) old.worker d → Gains old new event reply → event ≢ Complete d → IsFilling (own new) new.worker d
fills_after old new d event reply is g apart =
    subst (λ (w : ℕ). IsFilling (own new) w d) (sym g.worker)
    (subst (λ (st : State). IsFilling st old.worker d) (sym (gained old new event reply g)) (fills_on old.worker d (own old) event reply is apart))

pub leaves_rights : (board : Board) (old new : Pass) (x : Right) (event : Event) (reply : Reply) → IsRightOf (caller old) x → Appends board old new event reply → event ≢ Complete x.region → IsRightOf (caller new) x
leaves_rights board old new x event reply is a apart = fills_after (caller old) (caller new) x.region event reply is (gains_call board old new event reply a) apart

pub leaves_openings : (board : Board) (old new : Pass) (x : Opening) (event : Event) (reply : Reply) → IsOpeningOf (moves board) (caller old) x → Appends board old new event reply
    → event ≢ Complete x.destination → event ≢ Drain x.destination x.source → IsOpeningOf (moves board) (caller new) x
leaves_openings board old new x event reply is a apart pair =
    let d = x.destination in
    let s = x.source in
    let one = caller old in
    let other = caller new in
    let g = gains_call board old new event reply a in
    let stays : (own other).drained d s ≡ (own one).drained d s = ap (λ (st : State). st.drained d s) (gained one other event reply g) ∙ pair_stays one.worker d s (own one) event reply pair in
    (fills_after one other d event reply is.0 g apart, ap (λ (b : Bool). reads (moves board) d s && not b) stays ∙ is.1)
