-- What the entries of a legal history say of each other.
use Rattle.std.proofs.Common.{◌≡◌, ℕ, ◌+◌, ◌<◌, ◌≤◌, Bool, true, false, cond, List, [], ◌∷◌, ◌++◌, get_or, Option, Some, None, refl, sym, ap, ◌∙◌, subst, inl, inr, ◌⊎◌, arith}
use Rattle.std.specs.Prelude.{is_some, if◌then◌else◌, IsTrue, ◌==◌, ◌&&◌, ◌||◌, ◌↔◌, not, count_by}
use Rattle.std.specs.List.{list_any, range_with_len}
use Rattle.std.proofs.lemmas.Bool.{cases_Bool, and_left, and_right, or_right, or_from, ne_eqb, cases_eq, not-false, not_from_true, both_ways, false≢true}
use Rattle.std.proofs.lemmas.List.Folds.{list_any-append}
use Rattle.std.proofs.lemmas.List.FromFn.{length-range_with_len, get_or-range_with_len}
use Rattle.scheduler.specs.MoveTable.{MoveTable, region_count, to_fill, reads}
use Rattle.scheduler.specs.State.{State, opening, unsettled, all_or_more, state_after, reply_to, Allows, IsStep}
use Rattle.scheduler.specs.History.{state_of, AreSteps, IsLegal, IsReached, IsOrderly, IsSplit, is_settling_of, is_grant, is_grant_to}
use Rattle.scheduler.specs.declared.event.Event.{Event}
use Rattle.scheduler.specs.declared.event.Event.TheVariants.{Claim, Look, Drain, Complete, Settle, Poll, Copy}
use Rattle.scheduler.specs.declared.reply.Reply.{Reply}
use Rattle.scheduler.specs.declared.reply.Reply.TheVariants.{All, More}
use Rattle.scheduler.specs.declared.entry.Entry.{Entry}
use Rattle.scheduler.proofs.Lemmas.Counting.{count_by-cons, count_by_zero, count_by_none}
use Rattle.scheduler.proofs.Lemmas.Pairs.{flag_inside}
use Rattle.scheduler.proofs.Lemmas.Logs.{state_from-append, AreSteps-front, AreSteps-rest, drained_from, settled_from, settled_after, claimed_from, claimed_after, pending_from}
use Rattle.scheduler.proofs.Lemmas.Reaches.{MayClaim, grant_tells, step_reached, legal_reached}

-- the step of an entry
pub step_at : (m : MoveTable) (workers : ℕ) (log before after : List Entry) (e : Entry) → IsLegal m workers log → IsSplit log before e after
    → IsStep m (state_of before) e.worker e.event e.reply (state_after (state_of before) e.worker e.event e.reply)
step_at m workers log before after e legal split = (AreSteps-rest m workers opening before (e ∷ after) (subst (λ (l : List Entry). AreSteps m workers opening l) split legal)).1

steps_behind : (m : MoveTable) (workers : ℕ) (log before after : List Entry) (e : Entry) → IsLegal m workers log → IsSplit log before e after
    → AreSteps m workers (state_after (state_of before) e.worker e.event e.reply) after
steps_behind m workers log before after e legal split = (AreSteps-rest m workers opening before (e ∷ after) (subst (λ (l : List Entry). AreSteps m workers opening l) split legal)).2

-- 1 where the region is claimed
abbrev claims_held : State → ℕ → ℕ
claims_held now r = if is_some (now.claimed r) then 1 else 0

unheld : (now : State) (r : ℕ) → now.claimed r ≡ None → claims_held now r ≡ 0
unheld now r e = rw e refl

-- a claimed region isn't granted again
grants_from : (m : MoveTable) (workers : ℕ) (now : State) (log : List Entry) (r : ℕ) → AreSteps m workers now log → count_by (is_grant r) log + claims_held now r ≤ 1
grants_from m workers now [] r steps = go (is_some (now.claimed r))
  where
    go : (b : Bool) → 0 + cond {A = ℕ} b 1 0 ≤ 1
    go true = omega arith
    go false = omega arith
grants_from m workers now (e ∷ es) r steps = go (grants_from m workers (state_after now e.worker e.event e.reply) es r steps.2) (cases_Bool (is_grant r e))
  where
    go : count_by (is_grant r) es + claims_held (state_after now e.worker e.event e.reply) r ≤ 1 → (is_grant r e ≡ true) ⊎ (is_grant r e ≡ false) → count_by (is_grant r) (e ∷ es) + claims_held now r ≤ 1
    go rest (inl grants) =
        let may : MayClaim m now r = grant_tells m now e.event e.reply r steps.1.replied grants in
        let here : count_by (is_grant r) (e ∷ es) ≡ 1 + count_by (is_grant r) es = count_by-cons (is_grant r) e es ∙ (rw grants refl) in
        let free : claims_held now r ≡ 0 = unheld now r may.unclaimed in
        let own : (state_after now e.worker e.event e.reply).claimed r ≡ Some e.worker = claimed_after now e.worker e.event e.reply r ∙ (rw grants refl) in
        let held : claims_held (state_after now e.worker e.event e.reply) r ≡ 1 = rw own refl in
        omega arith
    go rest (inr other) =
        let here : count_by (is_grant r) (e ∷ es) ≡ 0 + count_by (is_grant r) es = count_by-cons (is_grant r) e es ∙ (rw other refl) in
        let stays : (state_after now e.worker e.event e.reply).claimed r ≡ now.claimed r = claimed_after now e.worker e.event e.reply r ∙ (rw other refl) in
        let same : claims_held (state_after now e.worker e.event e.reply) r ≡ claims_held now r = ap (λ (o : Option ℕ). cond {A = ℕ} (is_some o) 1 0) stays in
        omega arith

-- nothing is left to settle exactly where all regions to be filled are settled
at_place : (m : MoveTable) (k c : ℕ) → k < region_count m → get_or (range_with_len 0 (region_count m)) k c ≡ k
at_place m k c lt = get_or-range_with_len 0 (region_count m) k c lt ∙ zero_plus k
  where
    zero_plus : (n : ℕ) → 0 + n ≡ n
    zero_plus n = omega arith

pub all_settled : (m : MoveTable) (now : State) → unsettled m now ≡ 0 → (r : ℕ) → to_fill m r ≡ true → now.settled r ≡ true
all_settled m now none r fills =
    let lt : r < region_count m = flag_inside m.fill r fills in
    let z : (to_fill m (get_or (range_with_len 0 (region_count m)) r 0) && not (now.settled (get_or (range_with_len 0 (region_count m)) r 0))) ≡ false =
    count_by_zero (λ q. to_fill m q && not (now.settled q)) (range_with_len 0 (region_count m)) r 0 none (rw (length-range_with_len 0 (region_count m)) lt) in
    let z' : (to_fill m r && not (now.settled r)) ≡ false = rw (at_place m r 0 lt) at z in
    not-false (now.settled r) (rw fills at z')

pub none_unsettled : (m : MoveTable) (now : State) → ((r : ℕ) → to_fill m r ≡ true → now.settled r ≡ true) → unsettled m now ≡ 0
none_unsettled m now all = count_by_none (λ q. to_fill m q && not (now.settled q)) (range_with_len 0 (region_count m)) (λ k c lt. go (get_or (range_with_len 0 (region_count m)) k c) (cases_Bool (to_fill m (get_or (range_with_len 0 (region_count m)) k c))))
  where
    go : (q : ℕ) → (to_fill m q ≡ true) ⊎ (to_fill m q ≡ false) → (to_fill m q && not (now.settled q)) ≡ false
    go q (inl fills) = and_right (to_fill m q) (not (now.settled q)) (not_from_true (now.settled q) (all q fills))
    go q (inr other) = and_left (to_fill m q) (not (now.settled q)) other

all_tells : (n : ℕ) → all_or_more n ≡ All → n ≡ 0
all_tells n e = go (cases_eq n 0)
  where
    go : (n ≡ 0) ⊎ (n ≡ 0 → ⊥) → n ≡ 0
    go (inl z) = z
    go (inr other) = let more : all_or_more n ≡ More = rw (ne_eqb n 0 other) refl in let f : All ≡ More = sym e ∙ more in cc

all_from : (n : ℕ) → n ≡ 0 → all_or_more n ≡ All
all_from n z = rw z refl

-- the settled regions with one settling more
settled_with : (before : List Entry) (e : Entry) (d r : ℕ) → e.event ≡ Settle d → (r == d || (state_of before).settled r) ≡ list_any (λ c. is_settling_of r c.event) (before ++ e ∷ [])
settled_with before e d r is =
    ap (λ (b : Bool). r == d || b) (settled_from opening before r)
    ∙ (go (r == d) (list_any (λ c. is_settling_of r c.event) before)
    ∙ (ap (λ (ev : Event). list_any (λ c. is_settling_of r c.event) before || (is_settling_of r ev || false)) (sym is) ∙ sym (list_any-append (λ c. is_settling_of r c.event) before (e ∷ []))))
  where
    go : (a b : Bool) → (a || b) ≡ (b || (a || false))
    go true true = refl
    go true false = refl
    go false true = refl
    go false false = refl

-- a settling's reply
settle_replied : (m : MoveTable) (now : State) (event : Event) (reply : Reply) (d : ℕ) → event ≡ Settle d → reply ≡ reply_to m now event → reply ≡ all_or_more (unsettled m (state_after now 0 (Settle d) All))
settle_replied m now event reply d is replied = replied ∙ ap (reply_to m now) is

last_tells : (m : MoveTable) (before : List Entry) (e : Entry) (d : ℕ) → e.event ≡ Settle d → e.reply ≡ all_or_more (unsettled m (state_after (state_of before) 0 (Settle d) All))
    → (e.reply ≡ All) ↔ ((r : ℕ) → IsTrue (to_fill m r) → IsTrue (list_any (λ c. is_settling_of r c.event) (before ++ e ∷ [])))
last_tells m before e d is replied = (
  λ all r fills. sym (settled_with before e d r is) ∙ all_settled m (state_after (state_of before) 0 (Settle d) All) (all_tells (unsettled m (state_after (state_of before) 0 (Settle d) All)) (sym replied ∙ all)) r fills,
  λ each. replied ∙ all_from (unsettled m (state_after (state_of before) 0 (Settle d) All)) (none_unsettled m (state_after (state_of before) 0 (Settle d) All) (λ r fills. settled_with before e d r is ∙ each r fills)),
)

-- once all regions to be filled are settled, no event settles one
no_settling : (m : MoveTable) (now : State) (worker : ℕ) (event : Event) (q : ℕ) → IsReached m now → ((r : ℕ) → to_fill m r ≡ true → now.settled r ≡ true) → Allows m now worker event → is_settling_of q event ≡ false
no_settling m now worker (Claim r) q reached all allowed = refl
no_settling m now worker (Look r) q reached all allowed = refl
no_settling m now worker (Drain d s) q reached all allowed = refl
no_settling m now worker (Complete d) q reached all allowed = refl
no_settling m now worker (Settle d) q reached all allowed = absurd (both_ways (now.settled d) allowed.2 (all d (reached.claimed_to_fill d worker allowed.0)))
no_settling m now worker Poll q reached all allowed = refl
no_settling m now worker (Copy d n) q reached all allowed = refl

none_settles : (m : MoveTable) (workers : ℕ) (now : State) (log : List Entry) (q : ℕ) → IsReached m now → ((r : ℕ) → to_fill m r ≡ true → now.settled r ≡ true) → AreSteps m workers now log → list_any (λ c. is_settling_of q c.event) log ≡ false
none_settles m workers now [] q reached all steps = refl
none_settles m workers now (e ∷ es) q reached all steps =
    or_from (is_settling_of q e.event) (list_any (λ c. is_settling_of q c.event) es) (no_settling m now e.worker e.event q reached all steps.1.allowed)
    (none_settles m workers (state_after now e.worker e.event e.reply) es q (step_reached m now e.worker e.event e.reply reached steps.1)
    (λ r fills. settled_after now e.worker e.event e.reply r ∙ or_right (is_settling_of r e.event) (now.settled r) (all r fills)) steps.2)

drained_where_not_pending : (r b : Bool) → (r && not b) ≡ false → r ≡ true → b ≡ true
drained_where_not_pending true true e f = refl
drained_where_not_pending true false e f = sym e
drained_where_not_pending false b e f = absurd (false≢true f)

pub orderly : (m : MoveTable) (workers : ℕ) (log : List Entry) → IsLegal m workers log → IsOrderly m log
orderly m workers log legal =
    record {
      granted_once = λ r. let h = grants_from m workers opening log r legal in omega arith;
      granted_when_read = λ before after e r d split grants. (grant_tells m (state_of before) e.event e.reply r (step_at m workers log before after e legal split).replied grants).idle d;
      stays_read = λ before middle after e r d split grants. rw (state_from-append opening before (e ∷ middle)) (pending_from m (state_of before) (e ∷ middle) d r ((grant_tells m (state_of before) e.event e.reply r (step_at m workers log before (middle ++ after) e legal split).replied grants).idle d));
      completed_by_claimant = λ before after e d split is. claimant before e d (claimed_from opening before d e.worker (allowed before after e d split is).0.0);
      completed_when_drained = λ before after e d s split is has. sym (drained_from opening before d s) ∙ drained_where_not_pending (reads m d s) ((state_of before).drained d s) ((allowed before after e d split is).1 s) has;
      all_when_last = λ before after e d split is. last_tells m before e d is (settle_replied m (state_of before) e.event e.reply d is (step_at m workers log before after e legal split).replied);
      none_after_all = behind;
    }
  where
    allowed : (before after : List Entry) (e : Entry) (d : ℕ) → IsSplit log before e after → e.event ≡ Complete d → Allows m (state_of before) e.worker (Complete d)
    allowed before after e d split is = subst (λ (ev : Event). Allows m (state_of before) e.worker ev) is (step_at m workers log before after e legal split).allowed

    claimant : (before : List Entry) (e : Entry) (d : ℕ) → (opening.claimed d ≡ Some e.worker) ⊎ (list_any (is_grant_to e.worker d) before ≡ true) → IsTrue (list_any (is_grant_to e.worker d) before)
    claimant before e d (inl none) = let f : None ≡ Some e.worker = none in cc
    claimant before e d (inr h) = h

    behind : (before after : List Entry) (e : Entry) (d q : ℕ) → IsSplit log before e after → e.event ≡ Settle d → e.reply ≡ All → list_any (λ c. is_settling_of q c.event) after ≡ false
    behind before after e d q split is all =
        let step = step_at m workers log before after e legal split in
        let front : IsLegal m workers before = AreSteps-front m workers opening before (e ∷ after) (subst (λ (l : List Entry). AreSteps m workers opening l) split legal) in
        let reached : IsReached m (state_of before) = legal_reached m workers before front in
        let none : unsettled m (state_after (state_of before) 0 (Settle d) All) ≡ 0 = all_tells (unsettled m (state_after (state_of before) 0 (Settle d) All)) (sym (settle_replied m (state_of before) e.event e.reply d is step.replied) ∙ all) in
        none_settles m workers (state_after (state_of before) e.worker e.event e.reply) after q (step_reached m (state_of before) e.worker e.event e.reply reached step)
        (λ r fills. settled_after (state_of before) e.worker e.event e.reply r ∙ (ap (λ (ev : Event). is_settling_of r ev || (state_of before).settled r) is ∙ all_settled m (state_after (state_of before) 0 (Settle d) All) none r fills))
        (steps_behind m workers log before after e legal split)
