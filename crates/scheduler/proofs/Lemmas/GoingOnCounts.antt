-- How many calls that change something are left, and how many regions are free of readers.
use Rattle.std.proofs.Common.{◌≡◌, ℕ, ◌+◌, ◌<◌, ◌≤◌, Bool, true, false, cond, List, [], ◌∷◌, ◌++◌, length, get_or, Some, refl, sym, ap, ◌∙◌, inl, inr, ◌⊎◌, arith}
use Rattle.std.specs.Prelude.{◌==◌, ◌&&◌, ◌||◌, not, is_none, IsTrue, if◌then◌else◌, count_by}
use Rattle.std.specs.List.{range_with_len}
use Rattle.std.proofs.lemmas.Bool.{cases_Bool, cases_eq, and_parts, and_from, and_left, and_right, eq-eqb, ne_eqb, eqb-true, false_from_ne_true}
use Rattle.std.proofs.lemmas.List.FromFn.{length-range_with_len, get_or-range_with_len}
use Rattle.scheduler.specs.MoveTable.{MoveTable, IsMoveTable, region_count, to_fill, reads}
use Rattle.scheduler.specs.State.{State, opening, is_pending, readers_left, state_after, IsStep}
use Rattle.scheduler.specs.History.{state_from, state_of, AreSteps, IsLegal, IsReached, CountsDown, calls_by}
use Rattle.scheduler.specs.GoingOn.{is_change, changes_left, frees, is_freeing, freed, frees_it, is_last_of}
use Rattle.scheduler.specs.declared.event.Event.{Event}
use Rattle.scheduler.specs.declared.event.Event.TheVariants.{Claim, Look, Drain, Complete, Settle, Poll, Copy}
use Rattle.scheduler.specs.declared.reply.Reply.{Reply}
use Rattle.scheduler.specs.declared.reply.Reply.TheVariants.{Yes, Last, NotLast}
use Rattle.scheduler.specs.declared.entry.Entry.{Entry}
use Rattle.scheduler.proofs.Lemmas.Counting.{count_by-cons, count_by_same, count_by_one_less, count_by_fewer}
use Rattle.scheduler.proofs.Lemmas.Countdown.{counts_down}
use Rattle.scheduler.proofs.Lemmas.Pairs.{IsPlaced, flag_inside, placed, one_place}
use Rattle.scheduler.proofs.Lemmas.Logs.{AreSteps-front, AreSteps-rest}
use Rattle.scheduler.proofs.Lemmas.Reaches.{MayClaim, grant_tells, step_reached, opening_reached}

-- 1 where it is so
abbrev one_if : Bool → ℕ
one_if b = cond {A = ℕ} b 1 0

at_region : (n k c : ℕ) → k < length (range_with_len 0 n) → get_or (range_with_len 0 n) k c ≡ k
at_region n k c lt = get_or-range_with_len 0 n k c (rw (← length-range_with_len 0 n) lt) ∙ zero_plus k
  where
    zero_plus : (j : ℕ) → 0 + j ≡ j
    zero_plus j = omega arith

-- one region fewer passes
one_region_less : (p q : ℕ → Bool) (n d : ℕ) → d < n → p d ≡ true → q d ≡ false → ((k : ℕ) → (k ≡ d → ⊥) → p k ≡ q k) → count_by p (range_with_len 0 n) ≡ count_by q (range_with_len 0 n) + 1
one_region_less p q n d lt passes fails same =
    count_by_one_less p q (range_with_len 0 n) d 0 in_range (ap p (at_region n d 0 in_range) ∙ passes) (ap q (at_region n d 0 in_range) ∙ fails)
    (λ k c lt' other. ap p (at_region n k c lt') ∙ (same k other ∙ sym (ap q (at_region n k c lt'))))
  where
    in_range : d < length (range_with_len 0 n)
    in_range = rw (length-range_with_len 0 n) lt

same_regions : (p q : ℕ → Bool) (n : ℕ) → ((k : ℕ) → p k ≡ q k) → count_by p (range_with_len 0 n) ≡ count_by q (range_with_len 0 n)
same_regions p q n same = count_by_same p q (range_with_len 0 n) (λ k c lt. same (get_or (range_with_len 0 n) k c))

-- a grant leaves one region fewer unclaimed
claims_one : (m : MoveTable) (now : State) (worker r : ℕ) → MayClaim m now r
    → count_by (λ q. to_fill m q && is_none (now.claimed q)) (range_with_len 0 (region_count m)) ≡ count_by (λ q. to_fill m q && is_none ((state_after now worker (Claim r) Yes).claimed q)) (range_with_len 0 (region_count m)) + 1
claims_one m now worker r may =
    one_region_less (λ q. to_fill m q && is_none (now.claimed q)) (λ q. to_fill m q && is_none (if q == r then Some worker else now.claimed q)) (region_count m) r (flag_inside m.fill r may.fills)
    (and_from (to_fill m r) (is_none (now.claimed r)) may.fills (rw may.unclaimed refl))
    (and_right (to_fill m r) (is_none (if r == r then Some worker else now.claimed r)) (rw (eq-eqb r r refl) refl))
    (λ k other. rw (ne_eqb k r other) refl)

-- a drain leaves one pair fewer
drains_one : (m : MoveTable) (now : State) (d s : ℕ) → IsMoveTable m → IsTrue (is_pending m now d s)
    → count_by (λ pair. not (now.drained pair.0 pair.1)) m.pairs ≡ count_by (λ pair. not ((pair.0 == d && pair.1 == s) || now.drained pair.0 pair.1)) m.pairs + 1
drains_one m now d s table pending =
    count_by_one_less (λ pair. not (now.drained pair.0 pair.1)) (λ pair. not ((pair.0 == d && pair.1 == s) || now.drained pair.0 pair.1)) m.pairs place.at (0, 0) place.inside
    (rw (place.first (0, 0), place.second (0, 0)) (and_parts (reads m d s) (not (now.drained d s)) pending).1)
    (rw (place.first (0, 0), place.second (0, 0)) (rw (eq-eqb d d refl, eq-eqb s s refl) refl))
    (λ k c lt other. rw (apart k c lt other) refl)
  where
    place : IsPlaced m.pairs d s
    place = placed m.pairs d s (and_parts (reads m d s) (not (now.drained d s)) pending).0

    apart : (k : ℕ) (c : ℕ × ℕ) → k < length m.pairs → (k ≡ place.at → ⊥) → ((get_or m.pairs k c).0 == d && (get_or m.pairs k c).1 == s) ≡ false
    apart k c lt other = false_from_ne_true ((get_or m.pairs k c).0 == d && (get_or m.pairs k c).1 == s) (λ e.
        let q = and_parts ((get_or m.pairs k c).0 == d) ((get_or m.pairs k c).1 == s) e in
        other (one_place m.pairs k place.at c c table.ascending lt place.inside (eqb-true (get_or m.pairs k c).0 d q.0 ∙ sym (place.first c)) (eqb-true (get_or m.pairs k c).1 s q.1 ∙ sym (place.second c))))

-- a completion leaves one region fewer unfilled
fills_one : (m : MoveTable) (now : State) (d : ℕ) → IsTrue (to_fill m d) → now.filled d ≡ false
    → count_by (λ r. to_fill m r && not (now.filled r)) (range_with_len 0 (region_count m)) ≡ count_by (λ r. to_fill m r && not (r == d || now.filled r)) (range_with_len 0 (region_count m)) + 1
fills_one m now d fills open' =
    one_region_less (λ r. to_fill m r && not (now.filled r)) (λ r. to_fill m r && not (r == d || now.filled r)) (region_count m) d (flag_inside m.fill d fills)
    (and_from (to_fill m d) (not (now.filled d)) fills (ap not open'))
    (and_right (to_fill m d) (not (d == d || now.filled d)) (rw (eq-eqb d d refl) refl))
    (λ k other. rw (ne_eqb k d other) refl)

-- each call that changes something leaves one fewer, and no other call changes how many are left
changes_step : (m : MoveTable) (now : State) (worker : ℕ) (event : Event) (reply : Reply) → IsMoveTable m → IsReached m now → IsStep m now worker event reply (state_after now worker event reply)
    → changes_left m now ≡ changes_left m (state_after now worker event reply) + one_if (is_change (record { worker = worker; event = event; reply = reply }))
changes_step m now worker (Claim r) Yes table reached step = let one = claims_one m now worker r (grant_tells m now (Claim r) Yes r step.replied (rw (eq-eqb r r refl) refl)) in omega arith
changes_step m now worker (Claim r) reply table reached step = omega arith
changes_step m now worker (Look r) reply table reached step = omega arith
changes_step m now worker Poll reply table reached step = omega arith
changes_step m now worker (Copy d n) reply table reached step = omega arith
changes_step m now worker (Drain d s) reply table reached step = let one = drains_one m now d s table step.allowed.1 in omega arith
changes_step m now worker (Complete d) reply table reached step = let one = fills_one m now d (reached.claimed_to_fill d worker step.allowed.0.0) step.allowed.0.1 in omega arith
changes_step m now worker (Settle d) reply table reached step = let one = (counts_down m now table).unsettled_one worker d reply (reached.claimed_to_fill d worker step.allowed.0) step.allowed.2 in omega arith

changes_from : (m : MoveTable) (workers : ℕ) (now : State) (log : List Entry) → IsMoveTable m → IsReached m now → AreSteps m workers now log → changes_left m now ≡ changes_left m (state_from now log) + count_by is_change log
changes_from m workers now [] table reached steps = omega arith
changes_from m workers now (e ∷ es) table reached steps =
    let here = changes_step m now e.worker e.event e.reply table reached steps.1 in
    let rest = changes_from m workers (state_after now e.worker e.event e.reply) es table (step_reached m now e.worker e.event e.reply reached steps.1) steps.2 in
    let more = count_by-cons is_change e es in
    omega arith

pub all_changes : (m : MoveTable) (workers : ℕ) (log : List Entry) → IsMoveTable m → IsLegal m workers log → changes_left m opening ≡ changes_left m (state_of log) + count_by is_change log
all_changes m workers log table legal = changes_from m workers opening log table (opening_reached m) legal

-- the last drain of a region to fill frees it, and no other call frees a region
freed_step : (m : MoveTable) (now : State) (worker : ℕ) (event : Event) (reply : Reply) → IsMoveTable m → IsStep m now worker event reply (state_after now worker event reply)
    → freed m (state_after now worker event reply) ≡ freed m now + one_if (frees m event reply)
freed_step m now worker (Claim r) Yes table step = omega arith
freed_step m now worker (Claim r) reply table step = omega arith
freed_step m now worker (Look r) reply table step = omega arith
freed_step m now worker Poll reply table step = omega arith
freed_step m now worker (Copy d n) reply table step = omega arith
freed_step m now worker (Complete d) reply table step = omega arith
freed_step m now worker (Settle d) reply table step = omega arith
freed_step m now worker (Drain d s) reply table step = go (cases_Bool (to_fill m s)) (cases_Bool (readers_left m after s == 0))
  where
    after : State
    after = state_after now worker (Drain d s) reply

    counts : CountsDown m now
    counts = counts_down m now table

    fewer : readers_left m now s ≡ readers_left m after s + 1
    fewer = counts.readers worker d s reply step.allowed.1

    read_now : (readers_left m now s == 0) ≡ false
    read_now = ne_eqb (readers_left m now s) 0 (λ e. let f = fewer in omega arith)

    others : (k : ℕ) → (k ≡ s → ⊥) → (to_fill m k && (readers_left m after k == 0)) ≡ (to_fill m k && (readers_left m now k == 0))
    others k other = ap (λ (n : ℕ). to_fill m k && (n == 0)) (counts.readers_of_others worker d s k reply step.allowed.1 other)

    -- it frees none
    none : frees m (Drain d s) reply ≡ false → (to_fill m s && (readers_left m after s == 0)) ≡ false → freed m after ≡ freed m now + one_if (frees m (Drain d s) reply)
    none no_one still =
        let same : freed m after ≡ freed m now = same_regions (λ r. to_fill m r && (readers_left m after r == 0)) (λ r. to_fill m r && (readers_left m now r == 0)) (region_count m) (λ k. at k (cases_eq k s)) in
        let zero_ : one_if (frees m (Drain d s) reply) ≡ 0 = rw no_one refl in
        omega arith
      where
        at : (k : ℕ) → (k ≡ s) ⊎ (k ≡ s → ⊥) → (to_fill m k && (readers_left m after k == 0)) ≡ (to_fill m k && (readers_left m now k == 0))
        at k (inr other) = others k other
        at k (inl e) = rw e (still ∙ sym (and_right (to_fill m s) (readers_left m now s == 0) read_now))

    last_or_not : (b : Bool) → (readers_left m after s == 0) ≡ b → reply ≡ (if b then Last else NotLast)
    last_or_not b e = step.replied ∙ ap (λ (c : Bool). if c then Last else NotLast) e

    go : (to_fill m s ≡ true) ⊎ (to_fill m s ≡ false) → ((readers_left m after s == 0) ≡ true) ⊎ ((readers_left m after s == 0) ≡ false) → freed m after ≡ freed m now + one_if (frees m (Drain d s) reply)
    go (inl fills) (inl last) =
        let is : reply ≡ Last = last_or_not true last in
        let one : freed m after ≡ freed m now + 1 = one_region_less (λ r. to_fill m r && (readers_left m after r == 0)) (λ r. to_fill m r && (readers_left m now r == 0)) (region_count m) s (flag_inside m.fill s fills)
        (and_from (to_fill m s) (readers_left m after s == 0) fills last) (and_right (to_fill m s) (readers_left m now s == 0) read_now) others in
        let frees_it : one_if (frees m (Drain d s) reply) ≡ 1 = ap (λ (x : Reply). one_if (frees m (Drain d s) x)) is ∙ ap one_if fills in
        omega arith
    go (inl fills) (inr more) =
        none (ap (frees m (Drain d s)) (last_or_not false more)) (and_right (to_fill m s) (readers_left m after s == 0) more)
    go (inr keeps) (inl last) =
        none (ap (frees m (Drain d s)) (last_or_not true last) ∙ keeps) (and_left (to_fill m s) (readers_left m after s == 0) keeps)
    go (inr keeps) (inr more) =
        none (ap (frees m (Drain d s)) (last_or_not false more)) (and_left (to_fill m s) (readers_left m after s == 0) keeps)

freed_from : (m : MoveTable) (workers : ℕ) (now : State) (log : List Entry) → IsMoveTable m → AreSteps m workers now log → freed m (state_from now log) ≡ freed m now + count_by (is_freeing m) log
freed_from m workers now [] table steps = omega arith
freed_from m workers now (e ∷ es) table steps =
    let here = freed_step m now e.worker e.event e.reply table steps.1 in
    let rest = freed_from m workers (state_after now e.worker e.event e.reply) es table steps.2 in
    let more = count_by-cons (is_freeing m) e es in
    omega arith

pub all_freed : (m : MoveTable) (workers : ℕ) (log : List Entry) → IsMoveTable m → IsLegal m workers log → freed m (state_of log) ≡ freed m opening + count_by (is_freeing m) log
all_freed m workers log table legal = freed_from m workers opening log table legal

-- no more than the regions to be filled
pub freed_at_most : (m : MoveTable) (now : State) → freed m now ≤ count_by (to_fill m) (range_with_len 0 (region_count m))
freed_at_most m now = count_by_fewer (λ r. to_fill m r && (readers_left m now r == 0)) (to_fill m) (range_with_len 0 (region_count m)) (λ r e. (and_parts (to_fill m r) (readers_left m now r == 0) e).0)

-- what one worker calls counts no more than what all call
pub own_count : (p : Entry → Bool) (worker : ℕ) (log : List Entry) → count_by p (calls_by worker log) ≤ count_by p log
own_count p worker [] = omega arith
own_count p worker (e ∷ es) = go (cases_Bool (e.worker == worker)) (own_count p worker es)
  where
    go : ((e.worker == worker) ≡ true) ⊎ ((e.worker == worker) ≡ false) → count_by p (calls_by worker es) ≤ count_by p es → count_by p (calls_by worker (e ∷ es)) ≤ count_by p (e ∷ es)
    go (inl own) rest =
        let here : count_by p (calls_by worker (e ∷ es)) ≡ one_if (p e) + count_by p (calls_by worker es) = rw own (count_by-cons p e (calls_by worker es)) in
        let all : count_by p (e ∷ es) ≡ one_if (p e) + count_by p es = count_by-cons p e es in
        omega arith
    go (inr other) rest =
        let here : count_by p (calls_by worker (e ∷ es)) ≡ count_by p (calls_by worker es) = rw other refl in
        let all : count_by p (e ∷ es) ≡ one_if (p e) + count_by p es = count_by-cons p e es in
        omega arith

-- the last drain of a region frees it, and no other call does
last_step : (m : MoveTable) (now : State) (s worker : ℕ) (event : Event) (reply : Reply) → IsMoveTable m → IsStep m now worker event reply (state_after now worker event reply)
    → one_if (readers_left m (state_after now worker event reply) s == 0) ≡ one_if (readers_left m now s == 0) + one_if (frees_it s event reply)
last_step m now s worker (Claim r) Yes table step = omega arith
last_step m now s worker (Claim r) reply table step = omega arith
last_step m now s worker (Look r) reply table step = omega arith
last_step m now s worker Poll reply table step = omega arith
last_step m now s worker (Copy d n) reply table step = omega arith
last_step m now s worker (Complete d) reply table step = omega arith
last_step m now s worker (Settle d) reply table step = omega arith
last_step m now s worker (Drain d t) reply table step = go (cases_eq s t) (cases_Bool (readers_left m after t == 0))
  where
    after : State
    after = state_after now worker (Drain d t) reply

    counts : CountsDown m now
    counts = counts_down m now table

    read_now : (readers_left m now t == 0) ≡ false
    read_now = ne_eqb (readers_left m now t) 0 (λ e. let f = counts.readers worker d t reply step.allowed.1 in omega arith)

    last_or_not : (b : Bool) → (readers_left m after t == 0) ≡ b → reply ≡ (if b then Last else NotLast)
    last_or_not b e = step.replied ∙ ap (λ (c : Bool). if c then Last else NotLast) e

    go : (s ≡ t) ⊎ (s ≡ t → ⊥) → ((readers_left m after t == 0) ≡ true) ⊎ ((readers_left m after t == 0) ≡ false)
        → one_if (readers_left m after s == 0) ≡ one_if (readers_left m now s == 0) + one_if (frees_it s (Drain d t) reply)
    go (inl same) (inl last) =
        let a : one_if (readers_left m after s == 0) ≡ 1 = ap (λ (q : ℕ). one_if (readers_left m after q == 0)) same ∙ ap one_if last in
        let b : one_if (readers_left m now s == 0) ≡ 0 = ap (λ (q : ℕ). one_if (readers_left m now q == 0)) same ∙ ap one_if read_now in
        let c : one_if (frees_it s (Drain d t) reply) ≡ 1 = ap (λ (x : Reply). one_if (frees_it s (Drain d t) x)) (last_or_not true last) ∙ ap one_if (eq-eqb s t same) in
        omega arith
    go (inl same) (inr more) =
        let a : one_if (readers_left m after s == 0) ≡ 0 = ap (λ (q : ℕ). one_if (readers_left m after q == 0)) same ∙ ap one_if more in
        let b : one_if (readers_left m now s == 0) ≡ 0 = ap (λ (q : ℕ). one_if (readers_left m now q == 0)) same ∙ ap one_if read_now in
        let c : one_if (frees_it s (Drain d t) reply) ≡ 0 = ap (λ (x : Reply). one_if (frees_it s (Drain d t) x)) (last_or_not false more) in
        omega arith
    go (inr other) (inl last) =
        let a : one_if (readers_left m after s == 0) ≡ one_if (readers_left m now s == 0) = ap (λ (n : ℕ). one_if (n == 0)) (counts.readers_of_others worker d t s reply step.allowed.1 other) in
        let c : one_if (frees_it s (Drain d t) reply) ≡ 0 = ap (λ (x : Reply). one_if (frees_it s (Drain d t) x)) (last_or_not true last) ∙ ap one_if (ne_eqb s t other) in
        omega arith
    go (inr other) (inr more) =
        let a : one_if (readers_left m after s == 0) ≡ one_if (readers_left m now s == 0) = ap (λ (n : ℕ). one_if (n == 0)) (counts.readers_of_others worker d t s reply step.allowed.1 other) in
        let c : one_if (frees_it s (Drain d t) reply) ≡ 0 = ap (λ (x : Reply). one_if (frees_it s (Drain d t) x)) (last_or_not false more) in
        omega arith

last_from : (m : MoveTable) (workers : ℕ) (now : State) (log : List Entry) (s : ℕ) → IsMoveTable m → AreSteps m workers now log
    → one_if (readers_left m (state_from now log) s == 0) ≡ one_if (readers_left m now s == 0) + count_by (is_last_of s) log
last_from m workers now [] s table steps = omega arith
last_from m workers now (e ∷ es) s table steps =
    let here = last_step m now s e.worker e.event e.reply table steps.1 in
    let rest = last_from m workers (state_after now e.worker e.event e.reply) es s table steps.2 in
    let more = count_by-cons (is_last_of s) e es in
    omega arith

-- a region that had readers at the opening and has none now was freed by just one call, and one that has readers by none
pub freed_once : (m : MoveTable) (workers : ℕ) (log : List Entry) (s : ℕ) → IsMoveTable m → IsLegal m workers log → (readers_left m opening s ≡ 0 → ⊥)
    → (readers_left m (state_of log) s ≡ 0 → count_by (is_last_of s) log ≡ 1) × ((readers_left m (state_of log) s ≡ 0 → ⊥) → count_by (is_last_of s) log ≡ 0)
freed_once m workers log s table legal read = (λ none. yes none, λ more. no more)
  where
    sum : one_if (readers_left m (state_of log) s == 0) ≡ one_if (readers_left m opening s == 0) + count_by (is_last_of s) log
    sum = last_from m workers opening log s table legal

    first : one_if (readers_left m opening s == 0) ≡ 0
    first = ap one_if (ne_eqb (readers_left m opening s) 0 read)

    yes : readers_left m (state_of log) s ≡ 0 → count_by (is_last_of s) log ≡ 1
    yes none = let last : one_if (readers_left m (state_of log) s == 0) ≡ 1 = ap one_if (eq-eqb (readers_left m (state_of log) s) 0 none) in omega (arith, sum, first, last)

    no : (readers_left m (state_of log) s ≡ 0 → ⊥) → count_by (is_last_of s) log ≡ 0
    no more = let last : one_if (readers_left m (state_of log) s == 0) ≡ 0 = ap one_if (ne_eqb (readers_left m (state_of log) s) 0 more) in omega (arith, sum, first, last)

pub never_freed : (m : MoveTable) (workers : ℕ) (log : List Entry) (s : ℕ) → IsMoveTable m → IsLegal m workers log → readers_left m opening s ≡ 0 → count_by (is_last_of s) log ≡ 0
never_freed m workers log s table legal none = go (cases_Bool (readers_left m (state_of log) s == 0))
  where
    sum : one_if (readers_left m (state_of log) s == 0) ≡ one_if (readers_left m opening s == 0) + count_by (is_last_of s) log
    sum = last_from m workers opening log s table legal

    first : one_if (readers_left m opening s == 0) ≡ 1
    first = ap one_if (eq-eqb (readers_left m opening s) 0 none)

    go : ((readers_left m (state_of log) s == 0) ≡ true) ⊎ ((readers_left m (state_of log) s == 0) ≡ false) → count_by (is_last_of s) log ≡ 0
    go (inl e) = let last : one_if (readers_left m (state_of log) s == 0) ≡ 1 = ap one_if e in omega (arith, sum, first, last)
    go (inr e) = let last : one_if (readers_left m (state_of log) s == 0) ≡ 0 = ap one_if e in absurd (omega (arith, sum, first, last))

-- the queue of a worker that frees a region has room for it
pub finds_room : (m : MoveTable) (workers : ℕ) (log : List Entry) (e : Entry) (dealt : ℕ) → IsMoveTable m → IsLegal m workers (log ++ e ∷ []) → is_freeing m e ≡ true → dealt ≤ freed m opening
    → dealt + count_by (is_freeing m) (calls_by e.worker log) < count_by (to_fill m) (range_with_len 0 (region_count m))
finds_room m workers log e dealt table legal frees_one few =
    let before : IsLegal m workers log = AreSteps-front m workers opening log (e ∷ []) legal in
    let step = (AreSteps-rest m workers opening log (e ∷ []) legal).1 in
    let now = all_freed m workers log table before in
    let one : freed m (state_after (state_of log) e.worker e.event e.reply) ≡ freed m (state_of log) + one_if (frees m e.event e.reply) = freed_step m (state_of log) e.worker e.event e.reply table step in
    let yes : one_if (frees m e.event e.reply) ≡ 1 = ap one_if frees_one in
    let most = freed_at_most m (state_after (state_of log) e.worker e.event e.reply) in
    let own = own_count (is_freeing m) e.worker log in
    omega (arith, now, one, yes, most, own, few)
