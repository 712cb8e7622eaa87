-- How often each thing happens in a history in which every region to be filled is settled.
use Rattle.std.proofs.Common.{◌≡◌, ◌≢◌, ℕ, ◌+◌, Bool, true, false, cond, List, [], ◌∷◌, Option, Some, None, refl, ap, ◌∙◌, inl, inr, ◌⊎◌, arith}
use Rattle.std.specs.Prelude.{is_some, IsTrue, ◌==◌, ◌||◌, not, count_by}
use Rattle.std.proofs.lemmas.Bool.{cases_Bool, and_parts, eqb-true, not-false, false≢true}
use Rattle.scheduler.specs.MoveTable.{MoveTable, IsMoveTable, to_fill, reads}
use Rattle.scheduler.specs.State.{State, opening, is_pending, state_after, IsStep, Allows, AllAreSettled}
use Rattle.scheduler.specs.History.{state_from, state_of, AreSteps, IsLegal, IsReached, is_grant, is_drain_of, is_settling_of}
use Rattle.scheduler.specs.Whole.{is_completion_of, HasEachOnce}
use Rattle.scheduler.specs.declared.event.Event.{Event}
use Rattle.scheduler.specs.declared.event.Event.TheVariants.{Claim, Look, Drain, Complete, Settle, Poll, Copy}
use Rattle.scheduler.specs.declared.reply.Reply.{Reply}
use Rattle.scheduler.specs.declared.reply.Reply.TheVariants.{Yes}
use Rattle.scheduler.specs.declared.entry.Entry.{Entry}
use Rattle.scheduler.proofs.Lemmas.Counting.{count_by-cons}
use Rattle.scheduler.proofs.Lemmas.Logs.{drained_after, settled_after, claimed_after}
use Rattle.scheduler.proofs.Lemmas.Pairs.{slide_of}
use Rattle.scheduler.proofs.Lemmas.Reaches.{grant_tells, legal_reached}

-- 1 where it is so
abbrev one_if : Bool → ℕ
one_if b = cond {A = ℕ} b 1 0

-- Entries of this kind set the flag, each where it was not set, and no other entry changes it.
record IsSetBy (m : MoveTable) (kind : Entry → Bool) (flag : State → Bool) : Type 0 where
  unset : (now : State) (e : Entry) → IsStep m now e.worker e.event e.reply (state_after now e.worker e.event e.reply) → kind e ≡ true → flag now ≡ false
  sets : (now : State) (e : Entry) → kind e ≡ true → flag (state_after now e.worker e.event e.reply) ≡ true
  keeps : (now : State) (e : Entry) → kind e ≡ false → flag (state_after now e.worker e.event e.reply) ≡ flag now

-- so the number of entries of the kind is that of the flag
counted : (m : MoveTable) (workers : ℕ) (kind : Entry → Bool) (flag : State → Bool) → IsSetBy m kind flag → (now : State) (log : List Entry) → AreSteps m workers now log
    → count_by kind log + one_if (flag now) ≡ one_if (flag (state_from now log))
counted m workers kind flag by now [] steps = omega arith
counted m workers kind flag by now (e ∷ es) steps = go (cases_Bool (kind e)) (counted m workers kind flag by (state_after now e.worker e.event e.reply) es steps.2)
  where
    go : (kind e ≡ true) ⊎ (kind e ≡ false)
        → count_by kind es + one_if (flag (state_after now e.worker e.event e.reply)) ≡ one_if (flag (state_from (state_after now e.worker e.event e.reply) es))
        → count_by kind (e ∷ es) + one_if (flag now) ≡ one_if (flag (state_from (state_after now e.worker e.event e.reply) es))
    go (inl is) rest =
        let here : count_by kind (e ∷ es) ≡ 1 + count_by kind es = count_by-cons kind e es ∙ (rw is refl) in
        let before : one_if (flag now) ≡ 0 = rw (by.unset now e steps.1 is) refl in
        let after : one_if (flag (state_after now e.worker e.event e.reply)) ≡ 1 = rw (by.sets now e is) refl in
        omega arith
    go (inr is) rest =
        let here : count_by kind (e ∷ es) ≡ 0 + count_by kind es = count_by-cons kind e es ∙ (rw is refl) in
        let same : one_if (flag (state_after now e.worker e.event e.reply)) ≡ one_if (flag now) = ap one_if (by.keeps now e is) in
        omega arith

-- a claim changes the claims alone
-- one event's part in the filled regions
filled_after : (now : State) (worker : ℕ) (event : Event) (reply : Reply) (r : ℕ) → (state_after now worker event reply).filled r ≡ (is_completion_of r event || now.filled r)
filled_after now worker (Claim q) Yes r = refl
filled_after now worker (Claim q) reply r = refl
filled_after now worker (Look q) reply r = refl
filled_after now worker (Drain e t) reply r = refl
filled_after now worker (Complete e) reply r = refl
filled_after now worker (Settle e) reply r = refl
filled_after now worker Poll reply r = refl
filled_after now worker (Copy e n) reply r = refl

not_filled : (m : MoveTable) (now : State) (worker : ℕ) (event : Event) (r : ℕ) → Allows m now worker event → is_completion_of r event ≡ true → now.filled r ≡ false
not_filled m now worker (Complete q) r allowed is = rw (eqb-true r q is) allowed.0.1
not_filled m now worker (Claim q) r allowed is = absurd (false≢true is)
not_filled m now worker (Look q) r allowed is = absurd (false≢true is)
not_filled m now worker (Drain d s) r allowed is = absurd (false≢true is)
not_filled m now worker (Settle q) r allowed is = absurd (false≢true is)
not_filled m now worker Poll r allowed is = absurd (false≢true is)
not_filled m now worker (Copy d n) r allowed is = absurd (false≢true is)

not_settled : (m : MoveTable) (now : State) (worker : ℕ) (event : Event) (r : ℕ) → Allows m now worker event → is_settling_of r event ≡ true → now.settled r ≡ false
not_settled m now worker (Settle q) r allowed is = rw (eqb-true r q is) allowed.2
not_settled m now worker (Claim q) r allowed is = absurd (false≢true is)
not_settled m now worker (Look q) r allowed is = absurd (false≢true is)
not_settled m now worker (Drain d s) r allowed is = absurd (false≢true is)
not_settled m now worker (Complete q) r allowed is = absurd (false≢true is)
not_settled m now worker Poll r allowed is = absurd (false≢true is)
not_settled m now worker (Copy d n) r allowed is = absurd (false≢true is)

not_false : (b : Bool) → not b ≡ true → b ≡ false
not_false true e = absurd (false≢true e)
not_false false e = refl

not_drained : (m : MoveTable) (now : State) (worker : ℕ) (event : Event) (d s : ℕ) → Allows m now worker event → is_drain_of d s event ≡ true → now.drained d s ≡ false
not_drained m now worker (Drain e t) d s allowed is =
    let both = and_parts (d == e) (s == t) is in
    rw (eqb-true d e both.0, eqb-true s t both.1) (not_false (now.drained e t) (and_parts (reads m e t) (not (now.drained e t)) allowed.1).1)
not_drained m now worker (Claim q) d s allowed is = absurd (false≢true is)
not_drained m now worker (Look q) d s allowed is = absurd (false≢true is)
not_drained m now worker (Complete q) d s allowed is = absurd (false≢true is)
not_drained m now worker (Settle q) d s allowed is = absurd (false≢true is)
not_drained m now worker Poll d s allowed is = absurd (false≢true is)
not_drained m now worker (Copy e n) d s allowed is = absurd (false≢true is)

claims_set : (m : MoveTable) (r : ℕ) → IsSetBy m (is_grant r) (λ now. is_some (now.claimed r))
claims_set m r =
    record {
      unset = λ now e step is. rw (grant_tells m now e.event e.reply r step.replied is).unclaimed refl;
      sets = λ now e is. rw (claimed_after now e.worker e.event e.reply r) (rw is refl);
      keeps = λ now e is. ap (λ (o : Option ℕ). is_some o) (claimed_after now e.worker e.event e.reply r ∙ (rw is refl));
    }

fills_set : (m : MoveTable) (r : ℕ) → IsSetBy m (λ e. is_completion_of r e.event) (λ now. now.filled r)
fills_set m r =
    record {
      unset = λ now e step is. not_filled m now e.worker e.event r step.allowed is;
      sets = λ now e is. filled_after now e.worker e.event e.reply r ∙ (rw is refl);
      keeps = λ now e is. filled_after now e.worker e.event e.reply r ∙ (rw is refl);
    }

settles_set : (m : MoveTable) (r : ℕ) → IsSetBy m (λ e. is_settling_of r e.event) (λ now. now.settled r)
settles_set m r =
    record {
      unset = λ now e step is. not_settled m now e.worker e.event r step.allowed is;
      sets = λ now e is. settled_after now e.worker e.event e.reply r ∙ (rw is refl);
      keeps = λ now e is. settled_after now e.worker e.event e.reply r ∙ (rw is refl);
    }

drains_set : (m : MoveTable) (d s : ℕ) → IsSetBy m (λ e. is_drain_of d s e.event) (λ now. now.drained d s)
drains_set m d s =
    record {
      unset = λ now e step is. not_drained m now e.worker e.event d s step.allowed is;
      sets = λ now e is. drained_after now e.worker e.event e.reply d s ∙ (rw is refl);
      keeps = λ now e is. drained_after now e.worker e.event e.reply d s ∙ (rw is refl);
    }

-- a flag that is set in the end was set once
once : (m : MoveTable) (workers : ℕ) (kind : Entry → Bool) (flag : State → Bool) → IsSetBy m kind flag → (log : List Entry) → IsLegal m workers log → flag opening ≡ false → flag (state_of log) ≡ true → count_by kind log ≡ 1
once m workers kind flag by log legal first last =
    let count : count_by kind log + one_if (flag opening) ≡ one_if (flag (state_of log)) = counted m workers kind flag by opening log legal in
    let none : one_if (flag opening) ≡ 0 = rw first refl in
    let one : one_if (flag (state_of log)) ≡ 1 = rw last refl in
    omega arith

some_claim : (o : Option ℕ) → o ≢ None → is_some o ≡ true
some_claim None other = absurd (other refl)
some_claim (Some worker) other = refl

drained_where_read : (m : MoveTable) (now : State) (d s : ℕ) → is_pending m now d s ≡ false → reads m d s ≡ true → now.drained d s ≡ true
drained_where_read m now d s idle has = not-false (now.drained d s) (rw has at idle)

pub each_once : (m : MoveTable) (workers : ℕ) (log : List Entry) → IsMoveTable m → IsLegal m workers log → AllAreSettled m (state_of log) → HasEachOnce m log
each_once m workers log table legal all =
    record {
      granted = λ r fills. once m workers (is_grant r) (λ now. is_some (now.claimed r)) (claims_set m r) log legal refl (some_claim ((state_of log).claimed r) (reached.filled_claimed r (filled r fills)));
      completed = λ r fills. once m workers (λ e. is_completion_of r e.event) (λ now. now.filled r) (fills_set m r) log legal refl (filled r fills);
      settled = λ r fills. once m workers (λ e. is_settling_of r e.event) (λ now. now.settled r) (settles_set m r) log legal refl (all r fills);
      drained = λ d s has. once m workers (λ e. is_drain_of d s e.event) (λ now. now.drained d s) (drains_set m d s) log legal refl (drained_where_read m (state_of log) d s (reached.filled_drained d s (filled d (slide_of m d s table has).fills)) has);
    }
  where
    reached : IsReached m (state_of log)
    reached = legal_reached m workers log legal

    filled : (r : ℕ) → IsTrue (to_fill m r) → IsTrue ((state_of log).filled r)
    filled r fills = reached.settled_filled r (all r fills)
