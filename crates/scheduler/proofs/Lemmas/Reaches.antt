-- What holds in each state to which a legal history leads.
use Rattle.std.proofs.Common.{◌≡◌, ◌≢◌, ℕ, true, false, List, [], ◌∷◌, get_or, Option, Some, None, refl, sym, ap, ◌∙◌, subst, inl, inr, ◌⊎◌}
use Rattle.std.specs.Prelude.{is_none, if◌then◌else◌, IsTrue, ◌==◌, ◌&&◌, not}
use Rattle.std.proofs.lemmas.Bool.{cases_Bool, and_parts, and_left, and_right, or_cases, or_right, eqb-true, cases_eq, eq-eqb, ne_eqb, false≢true}
use Rattle.scheduler.specs.MoveTable.{MoveTable, to_fill, reads}
use Rattle.scheduler.specs.State.{State, opening, is_pending, readers_left, may_claim, state_after, reply_to, IsStep}
use Rattle.scheduler.specs.History.{state_from, state_of, AreSteps, IsLegal, IsReached, grants}
use Rattle.scheduler.specs.declared.event.Event.{Event}
use Rattle.scheduler.specs.declared.event.Event.TheVariants.{Claim, Look, Drain, Complete, Settle, Poll, Copy}
use Rattle.scheduler.specs.declared.reply.Reply.{Reply}
use Rattle.scheduler.specs.declared.reply.Reply.TheVariants.{Yes, No}
use Rattle.scheduler.specs.declared.entry.Entry.{Entry}
use Rattle.scheduler.proofs.Lemmas.Counting.{count_by_zero}
use Rattle.scheduler.proofs.Lemmas.Pairs.{placed}
use Rattle.scheduler.proofs.Lemmas.Logs.{pending_after}

-- what an allowed claim says
pub record MayClaim (m : MoveTable) (now : State) (r : ℕ) : Type 0 where
  pub fills : IsTrue (to_fill m r)
  pub unclaimed : now.claimed r ≡ None
  pub idle : (d : ℕ) → is_pending m now d r ≡ false

none_from_is_none : (o : Option ℕ) → is_none o ≡ true → o ≡ None
none_from_is_none None e = refl
none_from_is_none (Some v) e = absurd (false≢true e)

-- where no reader is left, no reading is pending
pub nobody_left : (m : MoveTable) (now : State) (s : ℕ) → readers_left m now s ≡ 0 → (d : ℕ) → is_pending m now d s ≡ false
nobody_left m now s none d = go (cases_Bool (reads m d s))
  where
    go : (reads m d s ≡ true) ⊎ (reads m d s ≡ false) → is_pending m now d s ≡ false
    go (inr e) = and_left (reads m d s) (not (now.drained d s)) e
    go (inl e) =
        let q = placed m.pairs d s e in
        let z : (s == (get_or m.pairs q.at (0, 0)).1 && not (now.drained (get_or m.pairs q.at (0, 0)).0 (get_or m.pairs q.at (0, 0)).1)) ≡ false = count_by_zero (λ pair. s == pair.1 && not (now.drained pair.0 pair.1)) m.pairs q.at (0, 0) none q.inside in
        let z' : (s == s && not (now.drained d s)) ≡ false = rw (q.first (0, 0), q.second (0, 0)) at z in
        and_right (reads m d s) (not (now.drained d s)) (rw (eq-eqb s s refl) at z')

pub may_claim_tells : (m : MoveTable) (now : State) (r : ℕ) → may_claim m now r ≡ true → MayClaim m now r
may_claim_tells m now r e =
    let a = and_parts (to_fill m r) (is_none (now.claimed r) && (readers_left m now r == 0)) e in
    let b = and_parts (is_none (now.claimed r)) (readers_left m now r == 0) a.1 in
    record {
      fills = a.0;
      unclaimed = none_from_is_none (now.claimed r) b.0;
      idle = nobody_left m now r (eqb-true (readers_left m now r) 0 b.1);
    }

-- a granted claim was one that may be granted
pub grant_tells : (m : MoveTable) (now : State) (event : Event) (reply : Reply) (r : ℕ) → reply ≡ reply_to m now event → grants r event reply ≡ true → MayClaim m now r
grant_tells m now (Claim q) Yes r is granted = go (cases_Bool (may_claim m now q))
  where
    go : (may_claim m now q ≡ true) ⊎ (may_claim m now q ≡ false) → MayClaim m now r
    go (inl may) = subst (MayClaim m now) (sym (eqb-true r q granted)) (may_claim_tells m now q may)
    go (inr not_now) =
        let no_ : Yes ≡ No = is ∙ (rw not_now refl) in
        cc
grant_tells m now (Claim q) reply r is granted = absurd (false≢true granted)
grant_tells m now (Look q) reply r is granted = absurd (false≢true granted)
grant_tells m now (Drain d s) reply r is granted = absurd (false≢true granted)
grant_tells m now (Complete d) reply r is granted = absurd (false≢true granted)
grant_tells m now (Settle d) reply r is granted = absurd (false≢true granted)
grant_tells m now Poll reply r is granted = absurd (false≢true granted)
grant_tells m now (Copy d n) reply r is granted = absurd (false≢true granted)

-- either a choice is the first, where the numbers are equal, or the second
choice_cases : (a b : ℕ) (x y : Option ℕ) → ((a ≡ b) × ((if a == b then x else y) ≡ x)) ⊎ ((a ≢ b) × ((if a == b then x else y) ≡ y))
choice_cases a b x y = go (cases_eq a b)
  where
    go : (a ≡ b) ⊎ (a ≡ b → ⊥) → ((a ≡ b) × ((if a == b then x else y) ≡ x)) ⊎ ((a ≢ b) × ((if a == b then x else y) ≡ y))
    go (inl e) = inl (e, rw (eq-eqb a b e))
    go (inr n) = inr (n, rw (ne_eqb a b n))

-- a granted claim
claim_reached : (m : MoveTable) (now : State) (worker r : ℕ) → IsReached m now → MayClaim m now r → IsReached m (state_after now worker (Claim r) Yes)
claim_reached m now worker r before may =
    record {
      claimed_to_fill = λ q by own. fill q by own (choice_cases q r (Some worker) (now.claimed q));
      filled_claimed = λ q filled none. still q filled none (choice_cases q r (Some worker) (now.claimed q));
      settled_filled = before.settled_filled;
      drained_reads = before.drained_reads;
      drained_claimed = λ d s drained none. begun d s drained none (choice_cases d r (Some worker) (now.claimed d));
      claimed_read = λ d s by own. idle d s by own (choice_cases s r (Some worker) (now.claimed s));
      filled_drained = before.filled_drained;
    }
  where
    fill : (q by : ℕ) → (if q == r then Some worker else now.claimed q) ≡ Some by
        → ((q ≡ r) × ((if q == r then Some worker else now.claimed q) ≡ Some worker)) ⊎ ((q ≢ r) × ((if q == r then Some worker else now.claimed q) ≡ now.claimed q))
        → IsTrue (to_fill m q)
    fill q by own (inl h) = rw h.0 may.fills
    fill q by own (inr h) = before.claimed_to_fill q by (sym h.1 ∙ own)

    still : (q : ℕ) → IsTrue (now.filled q) → (if q == r then Some worker else now.claimed q) ≡ None
        → ((q ≡ r) × ((if q == r then Some worker else now.claimed q) ≡ Some worker)) ⊎ ((q ≢ r) × ((if q == r then Some worker else now.claimed q) ≡ now.claimed q))
        → ⊥
    still q filled none (inl h) = let f : Some worker ≡ None = sym h.1 ∙ none in cc
    still q filled none (inr h) = before.filled_claimed q filled (sym h.1 ∙ none)

    begun : (d s : ℕ) → IsTrue (now.drained d s) → (if d == r then Some worker else now.claimed d) ≡ None
        → ((d ≡ r) × ((if d == r then Some worker else now.claimed d) ≡ Some worker)) ⊎ ((d ≢ r) × ((if d == r then Some worker else now.claimed d) ≡ now.claimed d))
        → ⊥
    begun d s drained none (inl h) = let f : Some worker ≡ None = sym h.1 ∙ none in cc
    begun d s drained none (inr h) = before.drained_claimed d s drained (sym h.1 ∙ none)

    idle : (d s by : ℕ) → (if s == r then Some worker else now.claimed s) ≡ Some by
        → ((s ≡ r) × ((if s == r then Some worker else now.claimed s) ≡ Some worker)) ⊎ ((s ≢ r) × ((if s == r then Some worker else now.claimed s) ≡ now.claimed s))
        → is_pending m now d s ≡ false
    idle d s by own (inl h) = rw h.0 (may.idle d)
    idle d s by own (inr h) = before.claimed_read d s by (sym h.1 ∙ own)

-- one call more
pub step_reached : (m : MoveTable) (now : State) (worker : ℕ) (event : Event) (reply : Reply) → IsReached m now
    → IsStep m now worker event reply (state_after now worker event reply) → IsReached m (state_after now worker event reply)
step_reached m now worker (Claim r) Yes before step = claim_reached m now worker r before (grant_tells m now (Claim r) Yes r step.replied (rw (eq-eqb r r refl) refl))
step_reached m now worker (Claim r) reply before step = before
step_reached m now worker (Look r) reply before step = before
step_reached m now worker Poll reply before step = before
step_reached m now worker (Copy d n) reply before step = before
step_reached m now worker (Drain d s) reply before step =
    record {
      claimed_to_fill = before.claimed_to_fill;
      filled_claimed = before.filled_claimed;
      settled_filled = before.settled_filled;
      drained_reads = λ e t drained. reads' e t (or_cases (e == d && t == s) (now.drained e t) drained);
      drained_claimed = λ e t drained none. begun e t none (or_cases (e == d && t == s) (now.drained e t) drained);
      claimed_read = λ e t by own. pending_after m now worker (Drain d s) reply e t (before.claimed_read e t by own);
      filled_drained = λ e t filled. pending_after m now worker (Drain d s) reply e t (before.filled_drained e t filled);
    }
  where
    begun : (e t : ℕ) → now.claimed e ≡ None → ((e == d && t == s) ≡ true) ⊎ (now.drained e t ≡ true) → ⊥
    begun e t none (inr h) = before.drained_claimed e t h none
    begun e t none (inl h) =
        let f : now.claimed e ≡ now.claimed d = ap now.claimed (eqb-true e d (and_parts (e == d) (t == s) h).0) in
        let g : now.claimed d ≡ Some worker = step.allowed.0.0 in
        cc

    reads' : (e t : ℕ) → ((e == d && t == s) ≡ true) ⊎ (now.drained e t ≡ true) → IsTrue (reads m e t)
    reads' e t (inr h) = before.drained_reads e t h
    reads' e t (inl h) =
        let both = and_parts (e == d) (t == s) h in
        rw (eqb-true e d both.0, eqb-true t s both.1) (and_parts (reads m d s) (not (now.drained d s)) step.allowed.1).0
step_reached m now worker (Complete d) reply before step =
    record {
      claimed_to_fill = before.claimed_to_fill;
      filled_claimed = λ r filled none. claimed' r none (or_cases (r == d) (now.filled r) filled);
      settled_filled = λ r settled. or_right (r == d) (now.filled r) (before.settled_filled r settled);
      drained_reads = before.drained_reads;
      drained_claimed = before.drained_claimed;
      claimed_read = before.claimed_read;
      filled_drained = λ r s filled. idle r s (or_cases (r == d) (now.filled r) filled);
    }
  where
    claimed' : (r : ℕ) → now.claimed r ≡ None → ((r == d) ≡ true) ⊎ (now.filled r ≡ true) → ⊥
    claimed' r none (inr h) = before.filled_claimed r h none
    claimed' r none (inl h) = let f : now.claimed r ≡ now.claimed d = ap now.claimed (eqb-true r d h) in let g : now.claimed d ≡ Some worker = step.allowed.0.0 in cc

    idle : (r s : ℕ) → ((r == d) ≡ true) ⊎ (now.filled r ≡ true) → is_pending m now r s ≡ false
    idle r s (inr h) = before.filled_drained r s h
    idle r s (inl h) = rw (eqb-true r d h) (step.allowed.1 s)
step_reached m now worker (Settle d) reply before step =
    record {
      claimed_to_fill = before.claimed_to_fill;
      filled_claimed = before.filled_claimed;
      settled_filled = λ r settled. filled' r (or_cases (r == d) (now.settled r) settled);
      drained_reads = before.drained_reads;
      drained_claimed = before.drained_claimed;
      claimed_read = before.claimed_read;
      filled_drained = before.filled_drained;
    }
  where
    filled' : (r : ℕ) → ((r == d) ≡ true) ⊎ (now.settled r ≡ true) → IsTrue (now.filled r)
    filled' r (inr h) = before.settled_filled r h
    filled' r (inl h) = rw (eqb-true r d h) step.allowed.1

pub opening_reached : (m : MoveTable) → IsReached m opening
opening_reached m =
    record {
      claimed_to_fill = λ r by own. absurd (let f : Some by ≡ None = sym own in cc);
      filled_claimed = λ r e. absurd (false≢true e);
      settled_filled = λ r e. absurd (false≢true e);
      drained_reads = λ d s e. absurd (false≢true e);
      drained_claimed = λ d s e. absurd (false≢true e);
      claimed_read = λ d s by own. absurd (let f : Some by ≡ None = sym own in cc);
      filled_drained = λ d s e. absurd (false≢true e);
    }

pub steps_reached : (m : MoveTable) (workers : ℕ) (now : State) (log : List Entry) → IsReached m now → AreSteps m workers now log → IsReached m (state_from now log)
steps_reached m workers now [] before steps = before
steps_reached m workers now (e ∷ es) before steps = steps_reached m workers (state_after now e.worker e.event e.reply) es (step_reached m now e.worker e.event e.reply before steps.1) steps.2

-- what holds after each legal history
pub legal_reached : (m : MoveTable) (workers : ℕ) (log : List Entry) → IsLegal m workers log → IsReached m (state_of log)
legal_reached m workers log legal = steps_reached m workers opening log (opening_reached m) legal
