-- What a worker's own calls say about its tickets, after a call.
use Rattle.std.proofs.Common.{◌≡◌, ℕ, ◌-◌, ◌<◌, ◌≤◌, Bool, true, false, cond, List, Some, None, refl, sym, ap, ◌∙◌, subst, eq-eqb, ne_eqb, arith}
use Rattle.std.proofs.Math.Path.{fun_ext}
use Rattle.std.specs.Prelude.{◌&&◌, ◌||◌, ◌==◌, not, count_by, IsTrue}
use Rattle.std.proofs.lemmas.Bool.{eqb-true, and_right}
use Rattle.scheduler.specs.declared.event.Event.{Event}
use Rattle.scheduler.specs.declared.event.Event.TheVariants.{Claim, Drain, Complete}
use Rattle.scheduler.specs.declared.reply.Reply.{Reply}
use Rattle.scheduler.specs.declared.reply.Reply.TheVariants.{Yes, No, Done}
use Rattle.scheduler.specs.declared.entry.Entry.{Entry}
use Rattle.scheduler.specs.MoveTable.{MoveTable, IsMoveTable}
use Rattle.scheduler.specs.State.{State, opening, state_after, may_claim, is_pending, IsFilling}
use Rattle.scheduler.specs.Scheduler.{sources_left}
use Rattle.scheduler.specs.History.{entry, state_of, IsLegal, AgreeOn}
use Rattle.claim_board.specs.Rule.{Extends}
use Rattle.claim_board.proofs.Lemmas.Premises.{Own, Counts}
use Rattle.claim_board.proofs.Lemmas.Logs.{legal_last, state_snoc}
use Rattle.claim_board.proofs.Lemmas.Words.{free_unclaimed}
use Rattle.claim_board.proofs.Lemmas.Effects.{own_of}

yes_true : (b : Bool) → Yes ≡ cond b Yes No → b ≡ true
yes_true true e = refl
yes_true false e = let f : Yes ≡ No = e in cc

-- the worker's own state after a call
pub own_after : (m : MoveTable) (n w : ℕ) (event : Event) (reply : Reply) (seen mine seen' mine' : List Entry) → Extends m n w seen mine event reply seen' mine' → state_of mine' ≡ state_after (state_of mine) w event reply
own_after m n w event reply seen mine seen' mine' x = ap state_of x.mine_is ∙ state_snoc opening mine (entry w event reply)

-- A region just claimed: its worker fills it, has drained nothing for it, and hasn't settled it
pub record JustClaimed (w r : ℕ) (own : State) : Type 0 where
  pub filling : IsFilling own w r
  pub undrained : (s : ℕ) → own.drained r s ≡ false
  pub unsettled : own.settled r ≡ false

pub claimed_now : Own → (m : MoveTable) (n w r : ℕ) (seen mine seen' mine' : List Entry) → Extends m n w seen mine (Claim r) Yes seen' mine' → JustClaimed w r (state_of mine')
claimed_now law m n w r seen mine seen' mine' x =
    record {
      filling = (ap (λ (st : State). st.claimed r) to ∙ ap (λ (b : Bool). cond b (Some w) ((state_of mine).claimed r)) (eq-eqb r r refl), ap (λ (st : State). st.filled r) to ∙ before.filled);
      undrained = λ s. ap (λ (st : State). st.drained r s) to ∙ before.drained s;
      unsettled = ap (λ (st : State). st.settled r) to ∙ before.settled;
    }
  where
    to : state_of mine' ≡ state_after (state_of mine) w (Claim r) Yes
    to = own_after m n w (Claim r) Yes seen mine seen' mine' x

    free : (state_of x.before).claimed r ≡ None
    free = free_unclaimed m (state_of x.before) r (yes_true (may_claim m (state_of x.before) r) (legal_last m n opening x.before (entry w (Claim r) Yes) (subst (IsLegal m n) x.seen_is x.legal)).replied)

    before : AgreeOn r (state_of mine) opening
    before = (own_of law m n w mine x.before x.legal_before x.calls).others r (λ e. let f : Some w ≡ None = sym e ∙ free in cc)

-- all its sources are left
pub all_left : (m : MoveTable) (r : ℕ) (st : State) → ((s : ℕ) → st.drained r s ≡ false) → count_by (λ pair. r == pair.0) m.pairs ≡ sources_left m st r
all_left m r st none = ap (λ (f : ℕ × ℕ → Bool). count_by f m.pairs) (fun_ext (λ pair. go pair (r == pair.0) refl))
  where
    go : (pair : ℕ × ℕ) (b : Bool) → (r == pair.0) ≡ b → (r == pair.0) ≡ (r == pair.0 && not (st.drained pair.0 pair.1))
    go pair true e = e ∙ sym (ap (λ (c : Bool). c && not (st.drained pair.0 pair.1)) e ∙ ap not (ap (λ (d : ℕ). st.drained d pair.1) (sym (eqb-true r pair.0 e)) ∙ none pair.1))
    go pair false e = e ∙ sym (ap (λ (c : Bool). c && not (st.drained pair.0 pair.1)) e)

-- What a ticket says about its region: its worker fills it, and this number of its sources are left.
pub record Fills (m : MoveTable) (w r next left : ℕ) (own : State) : Type 0 where
  pub filling : IsFilling own w r
  pub unsettled : own.settled r ≡ false
  pub ahead : (s : ℕ) → next ≤ s → own.drained r s ≡ false
  pub left_is : left ≡ sources_left m own r

-- it says so still once one of them is drained
pub drained_now : Counts → (m : MoveTable) → IsMoveTable m → (n w d r s next left : ℕ) (reply : Reply) (seen mine seen' mine' : List Entry) → Extends m n w seen mine (Drain d s) reply seen' mine' → d ≡ r → s < next
    → IsTrue (is_pending m (state_of mine) d s) → Fills m w r next left (state_of mine) → Fills m w r next (left - 1) (state_of mine')
drained_now law m lawful n w d r s next left reply seen mine seen' mine' x same low p fills =
    subst (λ (st : State). Fills m w r next (left - 1) st) (sym (own_after m n w (Drain d s) reply seen mine seen' mine' x))
    (subst (λ (y : ℕ). Fills m w y next (left - 1) (state_after (state_of mine) w (Drain d s) reply)) same after)
  where
    here : Fills m w d next left (state_of mine)
    here = subst (λ (y : ℕ). Fills m w y next left (state_of mine)) (sym same) fills

    after : Fills m w d next (left - 1) (state_after (state_of mine) w (Drain d s) reply)
    after =
        record {
          filling = here.filling;
          unsettled = here.unsettled;
          ahead = λ t high. ap (λ (b : Bool). b || (state_of mine).drained d t) (and_right (d == d) (t == s) (ne_eqb t s (λ e. omega arith))) ∙ here.ahead t high;
          left_is = let less = (law m (state_of mine) lawful).sources w d s reply p in let was = here.left_is in omega arith;
        }

-- a drain takes one off a positive count
pub some_left : Counts → (m : MoveTable) → IsMoveTable m → (d r s left : ℕ) (own : State) → d ≡ r → IsTrue (is_pending m own d s) → left ≡ sources_left m own r → 1 ≤ left
some_left law m lawful d r s left own same p is =
    let less = (law m own lawful).sources 0 d s Yes p in
    let at : sources_left m own d ≡ sources_left m own r = ap (sources_left m own) same in
    omega arith

-- a region just completed
pub record JustCompleted (w d : ℕ) (own : State) : Type 0 where
  pub claimed : own.claimed d ≡ Some w
  pub filled : IsTrue (own.filled d)
  pub unsettled : own.settled d ≡ false

pub completed_now : (m : MoveTable) (n w d : ℕ) (seen mine seen' mine' : List Entry) → Extends m n w seen mine (Complete d) Done seen' mine' → IsFilling (state_of mine) w d → (state_of mine).settled d ≡ false → JustCompleted w d (state_of mine')
completed_now m n w d seen mine seen' mine' x filling out =
    subst (JustCompleted w d) (sym (own_after m n w (Complete d) Done seen mine seen' mine' x))
    (record { claimed = filling.0; filled = ap (λ (b : Bool). b || (state_of mine).filled d) (eq-eqb d d refl); unsettled = out })
