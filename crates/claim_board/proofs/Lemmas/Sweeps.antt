-- What calls leave of a ticket.
use Rattle.std.proofs.Common.{◌≡◌, ◌≢◌, ℕ, ◌+◌, ◌<◌, ◌≤◌, Bool, true, false, cond, Some, refl, sym, ap, ◌∙◌, subst, inl, inr, ◌⊎◌, true≢false, eq-eqb, ne_eqb, arith}
use native.Mathlib.Decide.{dec_le}
use Rattle.std.proofs.Math.Path.{fun_ext}
use Rattle.std.specs.Prelude.{◌&&◌, ◌||◌, ◌==◌, not, count_by, IsTrue, option_map}
use Rattle.std.proofs.lemmas.Bool.{cases_Bool, and_left, and_right, or_right, eqb-true}
use Rattle.scheduler.specs.declared.event.Event.{Event}
use Rattle.scheduler.specs.declared.event.Event.TheVariants.{Claim, Look, Drain, Complete, Settle, Poll, Copy}
use Rattle.scheduler.specs.declared.reply.Reply.{Reply}
use Rattle.scheduler.specs.declared.reply.Reply.TheVariants.{Yes}
use Rattle.scheduler.specs.MoveTable.{MoveTable, IsMoveTable, reads, region_count}
use Rattle.scheduler.specs.State.{State, opening, state_after, is_pending, IsFilling}
use Rattle.scheduler.specs.Scheduler.{sources_left}
use Rattle.scheduler.specs.History.{entry, state_of, AgreeOn}
use Rattle.claim_board.specs.declared.tokens.ticket.Ticket.{Ticket}
use Rattle.claim_board.specs.Callers.{Caller, own, Gains}
use Rattle.claim_board.specs.Tickets.{IsTicketOf, IsSwept, Spares}
use Rattle.claim_board.proofs.Lemmas.Premises.{Counts}
use Rattle.claim_board.proofs.Lemmas.Logs.{state_snoc, tested}

-- the state after one more of the caller's own calls
pub gained : (old new : Caller) (event : Event) (reply : Reply) → Gains old new event reply → own new ≡ state_after (own old) old.worker event reply
gained old new event reply g = ap state_of g.mine ∙ state_snoc opening old.mine (entry old.worker event reply)

same : (r : ℕ) (st : State) → AgreeOn r st st
same r st = record { claimed = refl; filled = refl; settled = refl; drained = λ s. refl }

-- an event that spares a region leaves it as it was, once its worker has claimed it
pub spared : (r w : ℕ) (st : State) (event : Event) (reply : Reply) → st.claimed r ≡ Some w → Spares r event → AgreeOn r (state_after st w event reply) st
spared r w st (Claim q) Yes held apart = record { claimed = again (r == q); filled = refl; settled = refl; drained = λ s. refl }
  where
    again : (b : Bool) → cond b (Some w) (st.claimed r) ≡ st.claimed r
    again true = sym held
    again false = refl
spared r w st (Claim q) reply held apart = same r st
spared r w st (Look q) reply held apart = same r st
spared r w st (Drain d s) reply held apart = record { claimed = refl; filled = refl; settled = refl; drained = λ t. ap (λ (b : Bool). (b && t == s) || st.drained r t) (ne_eqb r d apart) }
spared r w st (Complete d) reply held apart = record { claimed = refl; filled = ap (λ (b : Bool). b || st.filled r) (ne_eqb r d apart); settled = refl; drained = λ s. refl }
spared r w st (Settle d) reply held apart = record { claimed = refl; filled = refl; settled = ap (λ (b : Bool). b || st.settled r) (ne_eqb r d apart); drained = λ s. refl }
spared r w st Poll reply held apart = same r st
spared r w st (Copy d n) reply held apart = same r st

-- as many sources are left of a region of which both say the same
same_left : (m : MoveTable) (r : ℕ) (one other : State) → AgreeOn r one other → sources_left m one r ≡ sources_left m other r
same_left m r one other a = ap (λ (f : ℕ × ℕ → Bool). count_by f m.pairs) (fun_ext (λ pair. go pair (r == pair.0) refl))
  where
    go : (pair : ℕ × ℕ) (b : Bool) → (r == pair.0) ≡ b → (r == pair.0 && not (one.drained pair.0 pair.1)) ≡ (r == pair.0 && not (other.drained pair.0 pair.1))
    go pair false e = ap (λ (c : Bool). c && not (one.drained pair.0 pair.1)) e ∙ sym (ap (λ (c : Bool). c && not (other.drained pair.0 pair.1)) e)
    go pair true e = ap (λ (b : Bool). r == pair.0 && not b) (subst (λ (d : ℕ). one.drained d pair.1 ≡ other.drained d pair.1) (eqb-true r pair.0 e) (a.drained pair.1))

pub leaves_tickets : (m : MoveTable) (old new : Caller) (t : Ticket) (event : Event) (reply : Reply) → IsTicketOf m old t → Gains old new event reply → Spares t.region event → IsTicketOf m new t
leaves_tickets m old new t event reply is g apart =
    record {
      board = is.board ∙ ap Some (sym g.board);
      worker = is.worker ∙ ap Some (sym g.worker);
      inside = is.inside;
      filling = (a.claimed ∙ (is.filling.0 ∙ ap Some (sym g.worker)), a.filled ∙ is.filling.1);
      unsettled = a.settled ∙ is.unsettled;
      ahead = λ s far. a.drained s ∙ is.ahead s far;
      left = is.left ∙ sym (same_left m t.region (own new) (own old) a);
    }
  where
    a : AgreeOn t.region (own new) (own old)
    a = subst (λ (st : State). AgreeOn t.region st (own old)) (sym (gained old new event reply g)) (spared t.region old.worker (own old) event reply is.filling.0 apart)

-- a ticket in which only what is opened has changed
pub opened_more : (m : MoveTable) (c : Caller) (t t' : Ticket) → t'.region ≡ t.region → t'.left ≡ t.left → t'.from ≡ t.from → t.next ≤ t'.next → IsTicketOf m c t → IsTicketOf m c t'
opened_more m c t t' region left from next is =
    record {
      board = ap (λ f. option_map (λ place. place.value.table_id) f) from ∙ is.board;
      worker = ap (λ f. option_map (λ place. Rattle.claim_board.specs.Views.worker_of place.value.me.0) f) from ∙ is.worker;
      inside = subst (λ (r : ℕ). r < region_count m) (sym region) is.inside;
      filling = subst (IsFilling (own c) c.worker) (sym region) is.filling;
      unsettled = ap (own c).settled region ∙ is.unsettled;
      ahead = λ s far. ap (λ (r : ℕ). (own c).drained r s) region ∙ is.ahead s (omega arith);
      left = left ∙ (is.left ∙ ap (sources_left m (own c)) (sym region));
    }

pub one_more : (m : MoveTable) (old new : Caller) (t t' : Ticket) (s : ℕ) (reply : Reply) → IsSwept m old t → t'.region ≡ t.region → t'.next ≡ s + 1
    → ((q : ℕ) → t.next ≤ q → q < s → reads m t.region q ≡ false) → Gains old new (Drain t.region s) reply → IsSwept m new t'
one_more m old new t t' s reply swept region next skipped g q low has =
    subst (λ (r : ℕ). IsTrue ((own new).drained r q)) (sym region) (ap (λ (st : State). st.drained t.region q) (gained old new (Drain t.region s) reply g) ∙ go (tested q s) (dec_le t.next q))
  where
    has' : IsTrue (reads m t.region q)
    has' = subst (λ (r : ℕ). IsTrue (reads m r q)) region has

    go : ((q ≡ s) × ((q == s) ≡ true)) ⊎ ((q ≢ s) × ((q == s) ≡ false)) → Dec (t.next ≤ q) → (t.region == t.region && q == s || (own old).drained t.region q) ≡ true
    go (inl e) d = rw (eq-eqb t.region t.region refl, e.1) refl
    go (inr n) (yes far) = let ne = n.0 in absurd (true≢false (sym has' ∙ skipped q far (omega arith)))
    go (inr n) (no near) = or_right (t.region == t.region && q == s) ((own old).drained t.region q) (swept q (omega arith) has')

pub none_left : Counts → (m : MoveTable) (c : Caller) (t : Ticket) → IsMoveTable m → IsTicketOf m c t → IsSwept m c t → ((s : ℕ) → t.next ≤ s → reads m t.region s ≡ false) → t.left ≡ 0
none_left counts m c t lawful is swept last = is.left ∙ (counts m (own c) lawful).none_left t.region (λ s. idle s (cases_Bool (reads m t.region s)) (dec_le t.next s))
  where
    idle : (s : ℕ) → (reads m t.region s ≡ true) ⊎ (reads m t.region s ≡ false) → Dec (t.next ≤ s) → is_pending m (own c) t.region s ≡ false
    idle s (inr e) d = and_left (reads m t.region s) (not ((own c).drained t.region s)) e
    idle s (inl e) (yes far) = and_left (reads m t.region s) (not ((own c).drained t.region s)) (last s far)
    idle s (inl e) (no near) = and_right (reads m t.region s) (not ((own c).drained t.region s)) (ap not (swept s (omega arith) e))
