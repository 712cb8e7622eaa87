-- Histories: their fronts, what comes after, and what their entries say about the state after them.
use Rattle.std.proofs.Common.{◌≡◌, ℕ, Bool, true, false, List, [], ◌∷◌, ◌++◌, Some, refl, sym, ap, ◌∙◌, inl, inr, ◌⊎◌}
use Rattle.std.specs.Prelude.{◌==◌, ◌&&◌, ◌||◌, not, if◌then◌else◌}
use Rattle.std.specs.List.{list_any}
use Rattle.std.proofs.lemmas.Bool.{cases_Bool, and_from, or_left, or_right, eq-eqb}
use Rattle.scheduler.specs.MoveTable.{MoveTable, reads}
use Rattle.scheduler.specs.State.{State, is_pending, state_after}
use Rattle.scheduler.specs.History.{state_from, AreSteps, is_drain_of, is_settling_of, grants, is_grant, is_grant_to}
use Rattle.scheduler.specs.declared.event.Event.{Event}
use Rattle.scheduler.specs.declared.event.Event.TheVariants.{Claim, Look, Drain, Complete, Settle, Poll, Copy}
use Rattle.scheduler.specs.declared.reply.Reply.{Reply}
use Rattle.scheduler.specs.declared.reply.Reply.TheVariants.{Yes}
use Rattle.scheduler.specs.declared.entry.Entry.{Entry}

pub state_from-append : (now : State) (xs ys : List Entry) → state_from now (xs ++ ys) ≡ state_from (state_from now xs) ys
state_from-append now [] ys = refl
state_from-append now (x ∷ xs) ys = state_from-append (state_after now x.worker x.event x.reply) xs ys

-- a front of a history, and what comes after it
pub AreSteps-front : (m : MoveTable) (workers : ℕ) (now : State) (xs ys : List Entry) → AreSteps m workers now (xs ++ ys) → AreSteps m workers now xs
AreSteps-front m workers now [] ys steps = tt
AreSteps-front m workers now (x ∷ xs) ys steps = (steps.0, steps.1, AreSteps-front m workers (state_after now x.worker x.event x.reply) xs ys steps.2)

pub AreSteps-rest : (m : MoveTable) (workers : ℕ) (now : State) (xs ys : List Entry) → AreSteps m workers now (xs ++ ys) → AreSteps m workers (state_from now xs) ys
AreSteps-rest m workers now [] ys steps = steps
AreSteps-rest m workers now (x ∷ xs) ys steps = AreSteps-rest m workers (state_after now x.worker x.event x.reply) xs ys steps.2

-- a claim changes the claims alone
-- one event's part in the drained pairs
pub drained_after : (now : State) (worker : ℕ) (event : Event) (reply : Reply) (d s : ℕ) → (state_after now worker event reply).drained d s ≡ (is_drain_of d s event || now.drained d s)
drained_after now worker (Claim r) Yes d s = refl
drained_after now worker (Claim r) reply d s = refl
drained_after now worker (Look r) reply d s = refl
drained_after now worker (Drain e t) reply d s = refl
drained_after now worker (Complete e) reply d s = refl
drained_after now worker (Settle e) reply d s = refl
drained_after now worker Poll reply d s = refl
drained_after now worker (Copy e n) reply d s = refl

-- and in the settled regions
pub settled_after : (now : State) (worker : ℕ) (event : Event) (reply : Reply) (r : ℕ) → (state_after now worker event reply).settled r ≡ (is_settling_of r event || now.settled r)
settled_after now worker (Claim q) Yes r = refl
settled_after now worker (Claim q) reply r = refl
settled_after now worker (Look q) reply r = refl
settled_after now worker (Drain e t) reply r = refl
settled_after now worker (Complete e) reply r = refl
settled_after now worker (Settle e) reply r = refl
settled_after now worker Poll reply r = refl
settled_after now worker (Copy e n) reply r = refl

-- and in the claims
pub claimed_after : (now : State) (worker : ℕ) (event : Event) (reply : Reply) (r : ℕ) → (state_after now worker event reply).claimed r ≡ (if grants r event reply then Some worker else now.claimed r)
claimed_after now worker (Claim q) Yes r = refl
claimed_after now worker (Claim q) reply r = refl
claimed_after now worker (Look q) reply r = refl
claimed_after now worker (Drain e t) reply r = refl
claimed_after now worker (Complete e) reply r = refl
claimed_after now worker (Settle e) reply r = refl
claimed_after now worker Poll reply r = refl
claimed_after now worker (Copy e n) reply r = refl

or_swap : (a b c : Bool) → ((a || b) || c) ≡ (b || (a || c))
or_swap true true c = refl
or_swap true false c = refl
or_swap false b c = refl

-- a pair is drained exactly if it was, or an entry drains it
pub drained_from : (now : State) (log : List Entry) (d s : ℕ) → (state_from now log).drained d s ≡ (now.drained d s || list_any (λ c. is_drain_of d s c.event) log)
drained_from now [] d s = go (now.drained d s)
  where
    go : (b : Bool) → b ≡ (b || false)
    go true = refl
    go false = refl
drained_from now (e ∷ es) d s =
    drained_from (state_after now e.worker e.event e.reply) es d s
    ∙ (ap (λ (b : Bool). b || list_any (λ c. is_drain_of d s c.event) es) (drained_after now e.worker e.event e.reply d s)
    ∙ or_swap (is_drain_of d s e.event) (now.drained d s) (list_any (λ c. is_drain_of d s c.event) es))

-- a region is settled exactly if it was, or an entry settles it
pub settled_from : (now : State) (log : List Entry) (r : ℕ) → (state_from now log).settled r ≡ (now.settled r || list_any (λ c. is_settling_of r c.event) log)
settled_from now [] r = go (now.settled r)
  where
    go : (b : Bool) → b ≡ (b || false)
    go true = refl
    go false = refl
settled_from now (e ∷ es) r =
    settled_from (state_after now e.worker e.event e.reply) es r
    ∙ (ap (λ (b : Bool). b || list_any (λ c. is_settling_of r c.event) es) (settled_after now e.worker e.event e.reply r)
    ∙ or_swap (is_settling_of r e.event) (now.settled r) (list_any (λ c. is_settling_of r c.event) es))

-- a region's claimant is the one that it had, or an entry granted the region to it
pub claimed_from : (now : State) (log : List Entry) (r worker : ℕ) → (state_from now log).claimed r ≡ Some worker → (now.claimed r ≡ Some worker) ⊎ (list_any (is_grant_to worker r) log ≡ true)
claimed_from now [] r worker own = inl own
claimed_from now (e ∷ es) r worker own = go (claimed_from (state_after now e.worker e.event e.reply) es r worker own) (cases_Bool (is_grant r e))
  where
    go : ((state_after now e.worker e.event e.reply).claimed r ≡ Some worker) ⊎ (list_any (is_grant_to worker r) es ≡ true) → (is_grant r e ≡ true) ⊎ (is_grant r e ≡ false)
        → (now.claimed r ≡ Some worker) ⊎ (list_any (is_grant_to worker r) (e ∷ es) ≡ true)
    go (inr later) b = inr (or_right (is_grant_to worker r e) (list_any (is_grant_to worker r) es) later)
    go (inl here) (inl grants) =
        let is : Some e.worker ≡ Some worker = sym (claimed_after now e.worker e.event e.reply r ∙ (rw grants refl)) ∙ here in
        let same : e.worker ≡ worker = cc in
        inr (or_left (is_grant_to worker r e) (list_any (is_grant_to worker r) es) (and_from (is_grant r e) (e.worker == worker) grants (eq-eqb e.worker worker same)))
    go (inl here) (inr other) = inl (sym (claimed_after now e.worker e.event e.reply r ∙ (rw other refl)) ∙ here)

-- what isn't pending doesn't become pending
pub pending_after : (m : MoveTable) (now : State) (worker : ℕ) (event : Event) (reply : Reply) (d s : ℕ) → is_pending m now d s ≡ false → is_pending m (state_after now worker event reply) d s ≡ false
pending_after m now worker event reply d s idle = rw (drained_after now worker event reply d s) (go (reads m d s) (is_drain_of d s event) (now.drained d s) idle)
  where
    go : (a b c : Bool) → (a && not c) ≡ false → (a && not (b || c)) ≡ false
    go true true c e = refl
    go true false c e = e
    go false b c e = refl

pub pending_from : (m : MoveTable) (now : State) (log : List Entry) (d s : ℕ) → is_pending m now d s ≡ false → is_pending m (state_from now log) d s ≡ false
pending_from m now [] d s idle = idle
pending_from m now (e ∷ es) d s idle = pending_from m (state_after now e.worker e.event e.reply) es d s (pending_after m now e.worker e.event e.reply d s idle)
