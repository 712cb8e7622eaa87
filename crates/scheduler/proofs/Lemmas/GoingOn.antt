-- A legal history goes on until all regions to be filled are settled.
use Rattle.std.proofs.Common.{◌≡◌, ℕ, zero, suc, ◌<◌, Bool, true, false, List, [], ◌∷◌, ◌++◌, length, get_or, Option, Some, None, refl, sym, ap, ◌∙◌, inl, inr, ◌⊎◌, arith}
use Rattle.std.specs.Prelude.{◌==◌, ◌&&◌, not, IsTrue}
use Rattle.std.proofs.lemmas.Bool.{cases_Bool, cases_eq, and_parts, and_left, and_right, eq-eqb, ne_eqb, not-false, not-true, false≢true, false_from_ne_true}
use Rattle.scheduler.specs.MoveTable.{MoveTable, IsMoveTable, region_count, to_fill, reads}
use Rattle.scheduler.specs.State.{State, opening, is_pending, readers_left, may_claim, state_after, reply_to, Allows, IsStep, AllAreSettled}
use Rattle.scheduler.specs.History.{state_from, state_of, AreSteps, IsLegal, IsReached, calls_by, entry, grants}
use Rattle.scheduler.specs.GoingOn.{changes, MayFollow, IsForAll, IsForOne, GoesOn}
use Rattle.scheduler.specs.declared.event.Event.{Event}
use Rattle.scheduler.specs.declared.event.Event.TheVariants.{Claim, Drain, Complete, Settle}
use Rattle.scheduler.specs.declared.reply.Reply.{Reply}
use Rattle.scheduler.specs.declared.reply.Reply.TheVariants.{Yes, Done}
use Rattle.scheduler.specs.declared.entry.Entry.{Entry}
use Rattle.scheduler.proofs.Lemmas.Counting.{count_by_none}
use Rattle.scheduler.proofs.Lemmas.Logs.{AreSteps-front, AreSteps-rest, claimed_after}
use Rattle.scheduler.proofs.Lemmas.Pairs.{slide_of, flag_inside, reads_at}
use Rattle.scheduler.proofs.Lemmas.Reaches.{legal_reached}

-- where no pair with this source is pending, no reader is left
pub no_reader_left : (m : MoveTable) (now : State) (s : ℕ) → ((d : ℕ) → is_pending m now d s ≡ false) → readers_left m now s ≡ 0
no_reader_left m now s idle = count_by_none (λ pair. s == pair.1 && not (now.drained pair.0 pair.1)) m.pairs (λ k c lt. go k c lt (cases_eq s (get_or m.pairs k c).1))
  where
    go : (k : ℕ) (c : ℕ × ℕ) → k < length m.pairs → (s ≡ (get_or m.pairs k c).1) ⊎ (s ≡ (get_or m.pairs k c).1 → ⊥) → (s == (get_or m.pairs k c).1 && not (now.drained (get_or m.pairs k c).0 (get_or m.pairs k c).1)) ≡ false
    go k c lt (inr other) = and_left (s == (get_or m.pairs k c).1) (not (now.drained (get_or m.pairs k c).0 (get_or m.pairs k c).1)) (ne_eqb s (get_or m.pairs k c).1 other)
    go k c lt (inl same) =
        let has : reads m (get_or m.pairs k c).0 s ≡ true = reads_at m.pairs k (get_or m.pairs k c).0 s c lt refl (sym same) in
        let z : (true && not (now.drained (get_or m.pairs k c).0 s)) ≡ false = rw has at (idle (get_or m.pairs k c).0) in
        and_right (s == (get_or m.pairs k c).1) (not (now.drained (get_or m.pairs k c).0 (get_or m.pairs k c).1)) (ap (λ (a : ℕ). not (now.drained (get_or m.pairs k c).0 a)) (sym same) ∙ z)

-- where all regions to be filled below this one are filled, nothing is pending on it
pub lowest_idle : (m : MoveTable) (now : State) (r : ℕ) → IsMoveTable m → IsReached m now → ((q : ℕ) → q < r → IsTrue (to_fill m q) → IsTrue (now.filled q)) → (d : ℕ) → is_pending m now d r ≡ false
lowest_idle m now r table reached below d = go (cases_Bool (reads m d r))
  where
    go : (reads m d r ≡ true) ⊎ (reads m d r ≡ false) → is_pending m now d r ≡ false
    go (inr e) = and_left (reads m d r) (not (now.drained d r)) e
    go (inl e) = let slide = slide_of m d r table e in reached.filled_drained d r (below d slide.down slide.fills)

pub lowest_read : (m : MoveTable) (now : State) (r : ℕ) → IsMoveTable m → IsReached m now → ((q : ℕ) → q < r → IsTrue (to_fill m q) → IsTrue (now.filled q)) → readers_left m now r ≡ 0
lowest_read m now r table reached below = no_reader_left m now r (lowest_idle m now r table reached below)

-- the least number below n that passes, if one does
pub record IsLeast (p : ℕ → Bool) (n r : ℕ) : Type 0 where
  pub inside : r < n
  pub passes : p r ≡ true
  pub none_below : (q : ℕ) → q < r → p q ≡ false

pub least : (p : ℕ → Bool) (n : ℕ) → ((r : ℕ) → r < n → p r ≡ false) ⊎ ((r : ℕ) × IsLeast p n r)
least p zero = inl (λ r lt. absurd (omega arith))
least p (suc n) = go (least p n) (cases_Bool (p n))
  where
    go : ((r : ℕ) → r < n → p r ≡ false) ⊎ ((r : ℕ) × IsLeast p n r) → (p n ≡ true) ⊎ (p n ≡ false) → ((r : ℕ) → r < suc n → p r ≡ false) ⊎ ((r : ℕ) × IsLeast p (suc n) r)
    go (inr found) here = let is = found.1 in let lt = is.inside in inr (found.0, record { inside = omega arith; passes = is.passes; none_below = is.none_below })
    go (inl none) (inl is) = inr (n, record { inside = omega arith; passes = is; none_below = none })
    go (inl none) (inr is) = inl (λ r lt. last r lt (cases_eq r n))
      where
        last : (r : ℕ) → r < suc n → (r ≡ n) ⊎ (r ≡ n → ⊥) → p r ≡ false
        last r lt (inl e) = rw e is
        last r lt (inr other) = none r (omega arith)

-- the claimants of a legal history are its workers
claims_below : (m : MoveTable) (workers : ℕ) (now : State) (log : List Entry) → ((r w : ℕ) → now.claimed r ≡ Some w → w < workers) → AreSteps m workers now log → (r w : ℕ) → (state_from now log).claimed r ≡ Some w → w < workers
claims_below m workers now [] before steps r w own = before r w own
claims_below m workers now (e ∷ es) before steps q v held = claims_below m workers (state_after now e.worker e.event e.reply) es (λ r w own. go r w own (cases_Bool (grants r e.event e.reply))) steps.2 q v held
  where
    go : (r w : ℕ) → (state_after now e.worker e.event e.reply).claimed r ≡ Some w → (grants r e.event e.reply ≡ true) ⊎ (grants r e.event e.reply ≡ false) → w < workers
    go r w own (inl is) =
        let here : Some e.worker ≡ Some w = sym (claimed_after now e.worker e.event e.reply r ∙ (rw is refl)) ∙ own in
        let same : e.worker ≡ w = cc in
        let lt : e.worker < workers = steps.0 in
        omega arith
    go r w own (inr is) = before r w (sym (claimed_after now e.worker e.event e.reply r ∙ (rw is refl)) ∙ own)

pub claimant_below : (m : MoveTable) (workers : ℕ) (log : List Entry) (r w : ℕ) → IsLegal m workers log → (state_of log).claimed r ≡ Some w → w < workers
claimant_below m workers log r w legal own = claims_below m workers opening log (λ q v e. absurd (let f : Some v ≡ None = sym e in cc)) legal r w own

-- one call more
pub AreSteps-more : (m : MoveTable) (workers : ℕ) (now : State) (log : List Entry) (e : Entry) → AreSteps m workers now log → e.worker < workers
    → IsStep m (state_from now log) e.worker e.event e.reply (state_after (state_from now log) e.worker e.event e.reply) → AreSteps m workers now (log ++ e ∷ [])
AreSteps-more m workers now [] e steps lt step = (lt, step, tt)
AreSteps-more m workers now (x ∷ xs) e steps lt step = (steps.0, steps.1, AreSteps-more m workers (state_after now x.worker x.event x.reply) xs e steps.2 lt step)

-- an event that is allowed, with its reply
follow : (m : MoveTable) (workers : ℕ) (log : List Entry) (worker : ℕ) (event : Event) (reply : Reply) → IsLegal m workers log → worker < workers
    → Allows m (state_of log) worker event → reply ≡ reply_to m (state_of log) event → changes event reply ≡ true → MayFollow m workers log (entry worker event reply)
follow m workers log worker event reply legal lt allowed replied change =
    record { legal = AreSteps-more m workers opening log (entry worker event reply) legal lt (record { allowed = allowed; replied = replied; after = refl }); change = change }

claim_cases : (o : Option ℕ) → (o ≡ None) ⊎ ((w : ℕ) × (o ≡ Some w))
claim_cases None = inl refl
claim_cases (Some w) = inr (w, refl)

-- a region that is to be filled, unclaimed and read by nobody any more
pub claimable : (m : MoveTable) (now : State) (r : ℕ) → to_fill m r ≡ true → now.claimed r ≡ None → readers_left m now r ≡ 0 → may_claim m now r ≡ true
claimable m now r fills unclaimed none = rw (fills, unclaimed, none) refl

for_all : (m : MoveTable) (workers : ℕ) (log : List Entry) (r : ℕ) → IsLegal m workers log → r < region_count m → may_claim m (state_of log) r ≡ true → IsForAll m workers log r
for_all m workers log r legal inside may worker lt = follow m workers log worker (Claim r) Yes legal lt inside (rw may refl) refl

-- the claimant of a region that isn't filled may drain a source, or complete it
filling_goes_on : (m : MoveTable) (workers : ℕ) (log : List Entry) (r w : ℕ) → IsMoveTable m → IsLegal m workers log → (state_of log).claimed r ≡ Some w → (state_of log).filled r ≡ false → IsForOne m workers log r
filling_goes_on m workers log r w table legal own unfilled = (w, own, go (least (is_pending m (state_of log) r) (region_count m)))
  where
    lt : w < workers
    lt = claimant_below m workers log r w legal own

    go : ((s : ℕ) → s < region_count m → is_pending m (state_of log) r s ≡ false) ⊎ ((s : ℕ) × IsLeast (is_pending m (state_of log) r) (region_count m) s)
        → (event : Event) × ((reply : Reply) × MayFollow m workers log (entry w event reply))
    go (inr found) = let s = found.0 in (Drain r s, (reply_to m (state_of log) (Drain r s), follow m workers log w (Drain r s) (reply_to m (state_of log) (Drain r s)) legal lt ((own, unfilled), found.1.passes) refl refl))
    go (inl none) = (Complete r, (Done, follow m workers log w (Complete r) Done legal lt ((own, unfilled), idle) refl refl))
      where
        idle : (s : ℕ) → is_pending m (state_of log) r s ≡ false
        idle s = false_from_ne_true (is_pending m (state_of log) r s) (λ e. false≢true (sym (none s (slide_of m r s table (and_parts (reads m r s) (not ((state_of log).drained r s)) e).0).from_inside) ∙ e))

-- a filled region that isn't settled may be settled
settling_goes_on : (m : MoveTable) (workers : ℕ) (log : List Entry) (r w : ℕ) → IsLegal m workers log → (state_of log).claimed r ≡ Some w → (state_of log).filled r ≡ true → (state_of log).settled r ≡ false → IsForOne m workers log r
settling_goes_on m workers log r w legal own filled open' =
    (w, own, (Settle r, (reply_to m (state_of log) (Settle r), follow m workers log w (Settle r) (reply_to m (state_of log) (Settle r)) legal (claimant_below m workers log r w legal own) (own, filled, open') refl refl)))

pub goes_on : (m : MoveTable) (workers : ℕ) (log : List Entry) → IsMoveTable m → IsLegal m workers log → ¬ (AllAreSettled m (state_of log)) → GoesOn m workers log
goes_on m workers log table legal more = unfilled (least (λ r. to_fill m r && not ((state_of log).filled r)) (region_count m))
  where
    reached : IsReached m (state_of log)
    reached = legal_reached m workers log legal

    unfilled : ((r : ℕ) → r < region_count m → (to_fill m r && not ((state_of log).filled r)) ≡ false) ⊎ ((r : ℕ) × IsLeast (λ r. to_fill m r && not ((state_of log).filled r)) (region_count m) r) → GoesOn m workers log
    unfilled (inr found) = (r, claims (claim_cases ((state_of log).claimed r)))
      where
        r : ℕ
        r = found.0

        is : (to_fill m r ≡ true) × (not ((state_of log).filled r) ≡ true)
        is = and_parts (to_fill m r) (not ((state_of log).filled r)) found.1.passes

        below : (q : ℕ) → q < r → IsTrue (to_fill m q) → IsTrue ((state_of log).filled q)
        below q lt fills = let none : (to_fill m q && not ((state_of log).filled q)) ≡ false = found.1.none_below q lt in not-false ((state_of log).filled q) (rw fills at none)

        claims : ((state_of log).claimed r ≡ None) ⊎ ((w : ℕ) × ((state_of log).claimed r ≡ Some w)) → IsForAll m workers log r ⊎ IsForOne m workers log r
        claims (inl none) = inl (for_all m workers log r legal found.1.inside (claimable m (state_of log) r is.0 none (lowest_read m (state_of log) r table reached below)))
        claims (inr own) = inr (filling_goes_on m workers log r own.0 table legal own.1 (not-true ((state_of log).filled r) is.1))
    unfilled (inl all_filled) = unsettled' (least (λ r. to_fill m r && not ((state_of log).settled r)) (region_count m))
      where
        filled : (r : ℕ) → to_fill m r ≡ true → (state_of log).filled r ≡ true
        filled r fills = let none : (to_fill m r && not ((state_of log).filled r)) ≡ false = all_filled r (flag_inside m.fill r fills) in not-false ((state_of log).filled r) (rw fills at none)

        unsettled' : ((r : ℕ) → r < region_count m → (to_fill m r && not ((state_of log).settled r)) ≡ false) ⊎ ((r : ℕ) × IsLeast (λ r. to_fill m r && not ((state_of log).settled r)) (region_count m) r) → GoesOn m workers log
        unsettled' (inl none) = absurd (more (λ r fills. let z : (to_fill m r && not ((state_of log).settled r)) ≡ false = none r (flag_inside m.fill r fills) in not-false ((state_of log).settled r) (rw fills at z)))
        unsettled' (inr found) = (r, claims (claim_cases ((state_of log).claimed r)))
          where
            r : ℕ
            r = found.0

            is : (to_fill m r ≡ true) × (not ((state_of log).settled r) ≡ true)
            is = and_parts (to_fill m r) (not ((state_of log).settled r)) found.1.passes

            claims : ((state_of log).claimed r ≡ None) ⊎ ((w : ℕ) × ((state_of log).claimed r ≡ Some w)) → IsForAll m workers log r ⊎ IsForOne m workers log r
            claims (inl none) = absurd (reached.filled_claimed r (filled r is.0) none)
            claims (inr own) = inr (settling_goes_on m workers log r own.0 legal own.1 (filled r is.0) (not-true ((state_of log).settled r) is.1))

-- a claim of the lowest region that isn't filled is granted, unless the region is claimed
pub lowest_granted : (m : MoveTable) (workers : ℕ) (log : List Entry) (worker r : ℕ) (reply : Reply) → IsMoveTable m → IsLegal m workers (log ++ entry worker (Claim r) reply ∷ []) → IsTrue (to_fill m r) → (state_of log).claimed r ≡ None
    → ((q : ℕ) → q < r → IsTrue (to_fill m q) → IsTrue ((state_of log).filled q)) → reply ≡ Yes
lowest_granted m workers log worker r reply table legal fills unclaimed below = step.replied ∙ (rw may refl)
  where
    step : IsStep m (state_of log) worker (Claim r) reply (state_after (state_of log) worker (Claim r) reply)
    step = (AreSteps-rest m workers opening log (entry worker (Claim r) reply ∷ []) legal).1

    may : may_claim m (state_of log) r ≡ true
    may = claimable m (state_of log) r fills unclaimed (lowest_read m (state_of log) r table (legal_reached m workers log (AreSteps-front m workers opening log (entry worker (Claim r) reply ∷ []) legal)) below)

-- all calls of a history of one worker are its own
alone_from : (m : MoveTable) (now : State) (log : List Entry) → AreSteps m 1 now log → calls_by 0 log ≡ log
alone_from m now [] steps = refl
alone_from m now (e ∷ es) steps =
    let lt : e.worker < 1 = steps.0 in
    let is : e.worker ≡ 0 = omega arith in
    let own : (e.worker == 0) ≡ true = eq-eqb e.worker 0 is in
    rw own (ap (λ xs. e ∷ xs) (alone_from m (state_after now e.worker e.event e.reply) es steps.2))

pub alone : (m : MoveTable) (log : List Entry) → IsLegal m 1 log → calls_by 0 log ≡ log
alone m log legal = alone_from m opening log legal
