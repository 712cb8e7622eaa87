-- The steps of a scheduler, on its fields.
use Rattle.std.proofs.Common.{◌≡◌, ℕ, ◌+◌, ◌-◌, ◌<◌, ◌≤◌, Bool, true, false, List, length, get_or, Option, Some, None, Ok, Err, refl, sym, ap, ◌∙◌, inl, inr, ◌⊎◌, arith}
use Rattle.std.proofs.Math.Path.{fun_ext}
use Rattle.std.specs.Prelude.{◌==◌, ◌&&◌, ◌||◌, not, if◌then◌else◌, IsTrue, slice_index, slice_index_or, slice_set, count_by}
use Rattle.std.specs.List.{range_with_len}
use Rattle.std.proofs.Math.ListN.{length-set}
use Rattle.std.proofs.lemmas.List.{get_or_default, get_or-set_same, get_or-set_other, get_or_past}
use Rattle.std.proofs.lemmas.List.FromFn.{length-range_with_len, get_or-range_with_len}
use Rattle.std.proofs.lemmas.Bool.{cases_Bool, cases_eq, cases_lt, and_parts, and_from, and_left, and_right, eq-eqb, ne_eqb, eqb-true, false≢true, false_from_ne_true}
use Rattle.scheduler.specs.MoveIndex.{IsPlaceOf}
use Rattle.scheduler.specs.MoveTable.{MoveTable, IsMoveTable, region_count, to_fill, reads, readers_of, has_source}
use Rattle.scheduler.specs.State.{State, all_or_more, is_pending, readers_left, unsettled, may_claim, state_after, Allows, IsFilling}
use Rattle.scheduler.specs.Progress.{claimant_of, is_filled, is_settled}
use Rattle.scheduler.specs.Scheduler.{SchedulerView, state_in, is_flagged, sources_left, IsKept, Steps, IsPendingAt}
use Rattle.scheduler.specs.declared.event.Event.{Event}
use Rattle.scheduler.specs.declared.event.Event.TheVariants.{Claim, Drain, Complete, Settle}
use Rattle.scheduler.specs.declared.event.Illegal.{Illegal}
use Rattle.scheduler.specs.declared.reply.Reply.{Reply}
use Rattle.scheduler.specs.declared.reply.Reply.TheVariants.{Yes, Last, NotLast, Done, All}
use Rattle.scheduler.specs.declared.scheduler.progress.Progress.{Progress}
use Rattle.scheduler.specs.declared.scheduler.progress.Progress.TheVariants.{Unclaimed, Filling, Completed, Settled}
use Rattle.scheduler.proofs.Lemmas.Counting.{count_by_same, count_by_one_less, count_by_zero, count_by_none, count_by_fewer}
use Rattle.scheduler.proofs.Lemmas.Pairs.{IsSlide, slide_of, flag_inside, one_place, placed, reads_at}
use Rattle.scheduler.proofs.Lemmas.Flags.{is_flagged-set, is_flagged_at}

-- an event that isn't allowed
pub refused : (v : SchedulerView) (worker : ℕ) (event : Event) (e : Illegal) → ¬ (Allows v.moves (state_in v) worker event) → Steps v worker event (Err e) v
refused v worker event e no_way = record { moves = refl; workers = refl; step = (refl, no_way) }

-- of the pairs that have x as this end, how many aren't drained
abbrev pub left_by : (ℕ × ℕ → ℕ) → MoveTable → (ℕ → ℕ → Bool) → ℕ → ℕ
left_by end_of m drained x = count_by (λ pair. x == end_of pair && not (drained pair.0 pair.1)) m.pairs

-- a drain, on the drained pairs
abbrev pub drained_too : (ℕ → ℕ → Bool) → ℕ → ℕ → ℕ → ℕ → Bool
drained_too drained d s e t = (e == d && t == s) || drained e t

-- at another pair nothing changes
elsewhere : (m : MoveTable) (drained : ℕ → ℕ → Bool) (d s at : ℕ) → IsMoveTable m → at < length m.pairs → ((c : ℕ × ℕ) → (get_or m.pairs at c).0 ≡ d) → ((c : ℕ × ℕ) → (get_or m.pairs at c).1 ≡ s)
    → (k : ℕ) (c : ℕ × ℕ) → k < length m.pairs → (k ≡ at → ⊥) → drained_too drained d s (get_or m.pairs k c).0 (get_or m.pairs k c).1 ≡ drained (get_or m.pairs k c).0 (get_or m.pairs k c).1
elsewhere m drained d s at table inside first second k c lt other = rw apart refl
  where
    apart : ((get_or m.pairs k c).0 == d && (get_or m.pairs k c).1 == s) ≡ false
    apart = false_from_ne_true ((get_or m.pairs k c).0 == d && (get_or m.pairs k c).1 == s) (λ e.
        let q = and_parts ((get_or m.pairs k c).0 == d) ((get_or m.pairs k c).1 == s) e in
        other (one_place m.pairs k at c c table.ascending lt inside (eqb-true (get_or m.pairs k c).0 d q.0 ∙ sym (first c)) (eqb-true (get_or m.pairs k c).1 s q.1 ∙ sym (second c))))

-- a drain leaves one fewer at its end
pub left_by_less : (end_of : ℕ × ℕ → ℕ) (m : MoveTable) (drained : ℕ → ℕ → Bool) (d s at x : ℕ) → IsMoveTable m → at < length m.pairs → ((c : ℕ × ℕ) → (get_or m.pairs at c).0 ≡ d) → ((c : ℕ × ℕ) → (get_or m.pairs at c).1 ≡ s)
    → drained d s ≡ false → x ≡ end_of (get_or m.pairs at (0, 0)) → left_by end_of m drained x ≡ left_by end_of m (drained_too drained d s) x + 1
left_by_less end_of m drained d s at x table inside first second undrained is =
    count_by_one_less (λ pair. x == end_of pair && not (drained pair.0 pair.1)) (λ pair. x == end_of pair && not (drained_too drained d s pair.0 pair.1)) m.pairs at (0, 0) inside
    (and_from (x == end_of (get_or m.pairs at (0, 0))) (not (drained (get_or m.pairs at (0, 0)).0 (get_or m.pairs at (0, 0)).1)) (eq-eqb x (end_of (get_or m.pairs at (0, 0))) is) (ap not (here drained ∙ undrained)))
    (and_right (x == end_of (get_or m.pairs at (0, 0))) (not (drained_too drained d s (get_or m.pairs at (0, 0)).0 (get_or m.pairs at (0, 0)).1)) (ap not (here (drained_too drained d s) ∙ now)))
    (λ k c lt other. ap (λ (b : Bool). x == end_of (get_or m.pairs k c) && not b) (sym (elsewhere m drained d s at table inside first second k c lt other)))
  where
    here : (f : ℕ → ℕ → Bool) → f (get_or m.pairs at (0, 0)).0 (get_or m.pairs at (0, 0)).1 ≡ f d s
    here f = ap (λ (a : ℕ). f a (get_or m.pairs at (0, 0)).1) (first (0, 0)) ∙ ap (λ (b : ℕ). f d b) (second (0, 0))

    now : drained_too drained d s d s ≡ true
    now = rw (eq-eqb d d refl, eq-eqb s s refl) refl

-- and as many at each other end
pub left_by_other : (end_of : ℕ × ℕ → ℕ) (m : MoveTable) (drained : ℕ → ℕ → Bool) (d s at x : ℕ) → IsMoveTable m → at < length m.pairs → ((c : ℕ × ℕ) → (get_or m.pairs at c).0 ≡ d) → ((c : ℕ × ℕ) → (get_or m.pairs at c).1 ≡ s)
    → (x ≡ end_of (get_or m.pairs at (0, 0)) → ⊥) → left_by end_of m (drained_too drained d s) x ≡ left_by end_of m drained x
left_by_other end_of m drained d s at x table inside first second apart =
    count_by_same (λ pair. x == end_of pair && not (drained_too drained d s pair.0 pair.1)) (λ pair. x == end_of pair && not (drained pair.0 pair.1)) m.pairs (λ k c lt. go k c lt (cases_eq k at))
  where
    go : (k : ℕ) (c : ℕ × ℕ) → k < length m.pairs → (k ≡ at) ⊎ (k ≡ at → ⊥)
        → (x == end_of (get_or m.pairs k c) && not (drained_too drained d s (get_or m.pairs k c).0 (get_or m.pairs k c).1)) ≡ (x == end_of (get_or m.pairs k c) && not (drained (get_or m.pairs k c).0 (get_or m.pairs k c).1))
    go k c lt (inr other) = ap (λ (b : Bool). x == end_of (get_or m.pairs k c) && not b) (elsewhere m drained d s at table inside first second k c lt other)
    go k c lt (inl same) =
        let none : (x == end_of (get_or m.pairs k c)) ≡ false = ne_eqb x (end_of (get_or m.pairs k c)) (λ e. apart (e ∙ (ap (λ (j : ℕ). end_of (get_or m.pairs j c)) same ∙ ap end_of (get_or_default m.pairs at c (0, 0) inside)))) in
        rw none refl

-- a pair that is found pending, and the consequences
pub record IsOpen (v : SchedulerView) (d s at : ℕ) : Type 0 where
  pub inside : at < length v.moves.pairs
  pub first : (c : ℕ × ℕ) → (get_or v.moves.pairs at c).0 ≡ d
  pub second : (c : ℕ × ℕ) → (get_or v.moves.pairs at c).1 ≡ s
  pub undrained : is_flagged d s v.moves.pairs v.flags ≡ false
  pub pending : is_pending v.moves (state_in v) d s ≡ true
  pub slide : IsSlide v.moves d s

pub open_of : (v : SchedulerView) (readers sources : List ℕ) (left d s at : ℕ) → IsKept v readers sources left → IsPendingAt v d s at → IsOpen v d s at
open_of v readers sources left d s at kept found =
    record {
      inside = found.inside;
      first = first;
      second = second;
      undrained = undrained;
      pending = and_from (reads v.moves d s) (not (is_flagged d s v.moves.pairs v.flags)) has (ap not undrained);
      slide = slide_of v.moves d s kept.table has;
    }
  where
    first : (c : ℕ × ℕ) → (get_or v.moves.pairs at c).0 ≡ d
    first c = ap (λ (p : ℕ × ℕ). p.0) (get_or_default v.moves.pairs at c (d, s) found.inside ∙ found.is)

    second : (c : ℕ × ℕ) → (get_or v.moves.pairs at c).1 ≡ s
    second c = ap (λ (p : ℕ × ℕ). p.1) (get_or_default v.moves.pairs at c (d, s) found.inside ∙ found.is)

    has : reads v.moves d s ≡ true
    has = reads_at v.moves.pairs at d s (0, 0) found.inside (first (0, 0)) (second (0, 0))

    undrained : is_flagged d s v.moves.pairs v.flags ≡ false
    undrained = is_flagged_at d s v.moves.pairs v.flags at (0, 0) kept.table.ascending found.inside kept.flags_all (first (0, 0)) (second (0, 0)) ∙ found.undrained

-- the state of a scheduler after a pair is drained
abbrev pub drained_view : SchedulerView → ℕ → SchedulerView
drained_view v at = record v { flags = slice_set v.flags at true }

drained_flags : (v : SchedulerView) (readers sources : List ℕ) (left d s at : ℕ) → IsKept v readers sources left → IsOpen v d s at
    → ◌≡◌ {A = ℕ → ℕ → Bool} (λ e t. is_flagged e t v.moves.pairs (slice_set v.flags at true)) (drained_too (state_in v).drained d s)
drained_flags v readers sources left d s at kept found =
    fun_ext (λ e. fun_ext (λ t.
    is_flagged-set e t v.moves.pairs v.flags at (0, 0) found.inside kept.flags_all
    ∙ (ap (λ (a : ℕ). (e == a && t == (get_or v.moves.pairs at (0, 0)).1) || is_flagged e t v.moves.pairs v.flags) (found.first (0, 0))
    ∙ ap (λ (b : ℕ). (e == d && t == b) || is_flagged e t v.moves.pairs v.flags) (found.second (0, 0)))))

pub drained_state : (v : SchedulerView) (readers sources : List ℕ) (left worker d s at : ℕ) (reply : Reply) → IsKept v readers sources left → IsOpen v d s at
    → state_in (drained_view v at) ≡ state_after (state_in v) worker (Drain d s) reply
drained_state v readers sources left worker d s at reply kept found =
    ap (λ (f : ℕ → ℕ → Bool). record { drained = f; claimed = (state_in v).claimed; filled = (state_in v).filled; settled = (state_in v).settled }) (drained_flags v readers sources left d s at kept found)

-- a count goes down by one at its place
lowered : (counts : List ℕ) (x : ℕ) (old new : ℕ → ℕ) → x < length counts → ((k : ℕ) → k < length counts → slice_index counts k ≡ old k) → old x ≡ new x + 1 → ((k : ℕ) → (k ≡ x → ⊥) → new k ≡ old k)
    → (k : ℕ) → k < length counts → slice_index (slice_set counts x (slice_index counts x - 1)) k ≡ new k
lowered counts x old new inside are less same k lt = go (cases_eq k x)
  where
    go : (k ≡ x) ⊎ (k ≡ x → ⊥) → slice_index (slice_set counts x (slice_index counts x - 1)) k ≡ new k
    go (inl e) =
        let now : slice_index counts x ≡ old x = are x inside in
        let down : slice_index counts x - 1 ≡ new x = omega arith in
        ap (λ (j : ℕ). slice_index (slice_set counts x (slice_index counts x - 1)) j) e ∙ (get_or-set_same counts x (slice_index counts x - 1) 0 inside ∙ (down ∙ ap new (sym e)))
    go (inr n) = get_or-set_other counts x k (slice_index counts x - 1) 0 n ∙ (are k lt ∙ sym (same k n))

-- what holds after a pair is drained
pub record Drains (v : SchedulerView) (readers sources : List ℕ) (left d s at : ℕ) : Type 0 where
  pub some_sources : 1 ≤ slice_index sources d
  pub some_readers : 1 ≤ slice_index readers s
  pub kept : IsKept (drained_view v at) (slice_set readers s (slice_index readers s - 1)) (slice_set sources d (slice_index sources d - 1)) left
  pub steps : (worker : ℕ) (reply : Reply) → IsFilling (state_in v) worker d → reply ≡ (if slice_index readers s - 1 == 0 then Last else NotLast) → Steps v worker (Drain d s) (Ok reply) (drained_view v at)

pub drains : (v : SchedulerView) (readers sources : List ℕ) (left d s at : ℕ) → IsKept v readers sources left → IsOpen v d s at → Drains v readers sources left d s at
drains v readers sources left d s at kept found =
    record {
      some_sources = let a = kept.counts.sources_are d found.slide.to_inside in omega (arith, fewer_sources);
      some_readers = let a = kept.counts.readers_are s found.slide.from_inside in omega (arith, fewer_readers);
      kept = record {
        table = kept.table;
        flags_all = length-set v.flags at true ∙ kept.flags_all;
        progress_all = kept.progress_all;
        claimed_to_fill = kept.claimed_to_fill;
        counts = record {
          readers_all = length-set readers s (slice_index readers s - 1) ∙ kept.counts.readers_all;
          sources_all = length-set sources d (slice_index sources d - 1) ∙ kept.counts.sources_all;
          readers_are = λ k lt.
              lowered readers s (left_by (λ p. p.1) v.moves old) (left_by (λ p. p.1) v.moves new) (rw kept.counts.readers_all found.slide.from_inside) (λ j lt'. kept.counts.readers_are j (rw (← kept.counts.readers_all) lt')) fewer_readers
              (λ j other. left_by_other (λ p. p.1) v.moves old d s at j kept.table found.inside found.first found.second (λ e. other (e ∙ found.second (0, 0)))) k (rw kept.counts.readers_all lt)
              ∙ ap (λ (f : ℕ → ℕ → Bool). left_by (λ p. p.1) v.moves f k) (sym flags);
          sources_are = λ k lt.
              lowered sources d (left_by (λ p. p.0) v.moves old) (left_by (λ p. p.0) v.moves new) (rw kept.counts.sources_all found.slide.to_inside) (λ j lt'. kept.counts.sources_are j (rw (← kept.counts.sources_all) lt')) fewer_sources
              (λ j other. left_by_other (λ p. p.0) v.moves old d s at j kept.table found.inside found.first found.second (λ e. other (e ∙ found.first (0, 0)))) k (rw kept.counts.sources_all lt)
              ∙ ap (λ (f : ℕ → ℕ → Bool). left_by (λ p. p.0) v.moves f k) (sym flags);
          left_is = kept.counts.left_is;
        };
      };
      steps = λ worker reply own is. record {
        moves = refl;
        workers = refl;
        step = record { allowed = (own, found.pending); replied = is ∙ ap (λ (n : ℕ). if n == 0 then Last else NotLast) less; after = drained_state v readers sources left worker d s at reply kept found };
      };
    }
  where
    old : ℕ → ℕ → Bool
    old = (state_in v).drained

    new : ℕ → ℕ → Bool
    new = drained_too (state_in v).drained d s

    flags : ◌≡◌ {A = ℕ → ℕ → Bool} (λ e t. is_flagged e t v.moves.pairs (slice_set v.flags at true)) (drained_too (state_in v).drained d s)
    flags = drained_flags v readers sources left d s at kept found

    fewer_readers : left_by (λ p. p.1) v.moves (state_in v).drained s ≡ left_by (λ p. p.1) v.moves (drained_too (state_in v).drained d s) s + 1
    fewer_readers = left_by_less (λ p. p.1) v.moves (state_in v).drained d s at s kept.table found.inside found.first found.second found.undrained (sym (found.second (0, 0)))

    fewer_sources : left_by (λ p. p.0) v.moves (state_in v).drained d ≡ left_by (λ p. p.0) v.moves (drained_too (state_in v).drained d s) d + 1
    fewer_sources = left_by_less (λ p. p.0) v.moves (state_in v).drained d s at d kept.table found.inside found.first found.second found.undrained (sym (found.first (0, 0)))

    less : slice_index readers s - 1 ≡ readers_left v.moves (state_after (state_in v) 0 (Drain d s) Last) s
    less = let a : slice_index readers s ≡ left_by (λ p. p.1) v.moves (state_in v).drained s = kept.counts.readers_are s found.slide.from_inside in omega (arith, fewer_readers)

-- where no source is left, no reading is pending
pub all_read : (m : MoveTable) (now : State) (d : ℕ) → sources_left m now d ≡ 0 → (s : ℕ) → is_pending m now d s ≡ false
all_read m now d none s = go (cases_Bool (reads m d s))
  where
    go : (reads m d s ≡ true) ⊎ (reads m d s ≡ false) → is_pending m now d s ≡ false
    go (inr e) = and_left (reads m d s) (not (now.drained d s)) e
    go (inl e) =
        let q = placed m.pairs d s e in
        let z : (d == (get_or m.pairs q.at (0, 0)).0 && not (now.drained (get_or m.pairs q.at (0, 0)).0 (get_or m.pairs q.at (0, 0)).1)) ≡ false = count_by_zero (λ pair. d == pair.0 && not (now.drained pair.0 pair.1)) m.pairs q.at (0, 0) none q.inside in
        let z' : (d == d && not (now.drained d s)) ≡ false = rw (q.first (0, 0), q.second (0, 0)) at z in
        and_right (reads m d s) (not (now.drained d s)) (rw (eq-eqb d d refl) at z')

-- and the other way round
pub none_left : (m : MoveTable) (now : State) (d : ℕ) → ((s : ℕ) → is_pending m now d s ≡ false) → sources_left m now d ≡ 0
none_left m now d none = count_by_none (λ pair. d == pair.0 && not (now.drained pair.0 pair.1)) m.pairs (λ k c lt. go k c lt (cases_eq d (get_or m.pairs k c).0))
  where
    go : (k : ℕ) (c : ℕ × ℕ) → k < length m.pairs → (d ≡ (get_or m.pairs k c).0) ⊎ (d ≡ (get_or m.pairs k c).0 → ⊥) → (d == (get_or m.pairs k c).0 && not (now.drained (get_or m.pairs k c).0 (get_or m.pairs k c).1)) ≡ false
    go k c lt (inr other) = and_left (d == (get_or m.pairs k c).0) (not (now.drained (get_or m.pairs k c).0 (get_or m.pairs k c).1)) (ne_eqb d (get_or m.pairs k c).0 other)
    go k c lt (inl same) =
        let has : reads m d (get_or m.pairs k c).1 ≡ true = reads_at m.pairs k d (get_or m.pairs k c).1 c lt (sym same) refl in
        let z : (true && not (now.drained d (get_or m.pairs k c).1)) ≡ false = rw has at (none (get_or m.pairs k c).1) in
        and_right (d == (get_or m.pairs k c).0) (not (now.drained (get_or m.pairs k c).0 (get_or m.pairs k c).1)) (ap (λ (a : ℕ). not (now.drained a (get_or m.pairs k c).1)) (sym same) ∙ z)

-- a write at a place, as a function of the place
pub slice-set : {X : Type 0} (xs : List X) (i : ℕ) (y d : X) → i < length xs → ◌≡◌ {A = ℕ → X} (λ k. slice_index_or (slice_set xs i y) k d) (λ k. if k == i then y else slice_index_or xs k d)
slice-set xs i y d lt = fun_ext (λ k. go k (cases_eq k i))
  where
    go : (k : ℕ) → (k ≡ i) ⊎ (k ≡ i → ⊥) → slice_index_or (slice_set xs i y) k d ≡ (if k == i then y else slice_index_or xs k d)
    go k (inl e) = rw (e, eq-eqb i i refl) (get_or-set_same xs i y d lt)
    go k (inr n) = rw (ne_eqb k i n) (get_or-set_other xs i k y d n)

-- a fill that has begun is of a region in range
pub begun_inside : (xs : List Progress) (d : ℕ) (p : Progress) → slice_index_or xs d Unclaimed ≡ p → (p ≡ Unclaimed → ⊥) → d < length xs
begun_inside xs d p is begun = go (cases_lt d (length xs))
  where
    go : (d < length xs) ⊎ (length xs ≤ d) → d < length xs
    go (inl lt) = lt
    go (inr le) = absurd (begun (sym is ∙ get_or_past xs d Unclaimed le))

-- the state of a scheduler after the progress of a region's fill changes
abbrev pub progressed : SchedulerView → ℕ → Progress → SchedulerView
progressed v d p = record v { progress = slice_set v.progress d p }

-- one more test of a region's progress
pub test-set : (test : Progress → Bool) (xs : List Progress) (d : ℕ) (p : Progress) → d < length xs → test p ≡ true
    → ◌≡◌ {A = ℕ → Bool} (λ r. test (slice_index_or (slice_set xs d p) r Unclaimed)) (λ r. r == d || test (slice_index_or xs r Unclaimed))
test-set test xs d p lt is = ap {B = ℕ → Bool} (λ (f : ℕ → Progress) (r : ℕ). test (f r)) (slice-set xs d p Unclaimed lt) ∙ fun_ext (λ r. go r (cases_Bool (r == d)))
  where
    go : (r : ℕ) → ((r == d) ≡ true) ⊎ ((r == d) ≡ false) → test (if r == d then p else slice_index_or xs r Unclaimed) ≡ (r == d || test (slice_index_or xs r Unclaimed))
    go r (inl e) = rw e is
    go r (inr e) = rw e refl

-- what the write leaves unchanged
pub field-set : {X : Type 0} (f : Progress → X) (xs : List Progress) (d : ℕ) (p : Progress) → d < length xs → f p ≡ f (slice_index_or xs d Unclaimed)
    → ◌≡◌ {A = ℕ → X} (λ r. f (slice_index_or (slice_set xs d p) r Unclaimed)) (λ r. f (slice_index_or xs r Unclaimed))
field-set {X} f xs d p lt same = ap {B = ℕ → X} (λ (g : ℕ → Progress) (r : ℕ). f (g r)) (slice-set xs d p Unclaimed lt) ∙ fun_ext (λ r. go r (cases_eq r d))
  where
    go : (r : ℕ) → (r ≡ d) ⊎ (r ≡ d → ⊥) → f (if r == d then p else slice_index_or xs r Unclaimed) ≡ f (slice_index_or xs r Unclaimed)
    go r (inl e) = rw (e, eq-eqb d d refl) same
    go r (inr n) = rw (ne_eqb r d n) refl

-- the claims after a claim
pub claim-set : (xs : List Progress) (d worker : ℕ) → d < length xs
    → ◌≡◌ {A = ℕ → Option ℕ} (λ r. claimant_of (slice_index_or (slice_set xs d (Filling worker)) r Unclaimed)) (λ r. if r == d then Some worker else claimant_of (slice_index_or xs r Unclaimed))
claim-set xs d worker lt = ap {B = ℕ → Option ℕ} (λ (g : ℕ → Progress) (r : ℕ). claimant_of (g r)) (slice-set xs d (Filling worker) Unclaimed lt) ∙ fun_ext (λ r. go r (cases_Bool (r == d)))
  where
    go : (r : ℕ) → ((r == d) ≡ true) ⊎ ((r == d) ≡ false) → claimant_of (if r == d then Filling worker else slice_index_or xs r Unclaimed) ≡ (if r == d then Some worker else claimant_of (slice_index_or xs r Unclaimed))
    go r (inl e) = rw e refl
    go r (inr e) = rw e refl

-- a state is its four sets
pub state_is : (old : State) (drained : ℕ → ℕ → Bool) (claimed claimed' : ℕ → Option ℕ) (filled filled' settled settled' : ℕ → Bool) → claimed ≡ claimed' → filled ≡ filled' → settled ≡ settled'
    → ◌≡◌ {A = State} (record { drained = drained; claimed = claimed; filled = filled; settled = settled }) (record { drained = drained; claimed = claimed'; filled = filled'; settled = settled' })
state_is old drained claimed claimed' filled filled' settled settled' a b c = λ i. record { drained = drained; claimed = a i; filled = b i; settled = c i }

-- the invariant stays if only a fill's progress changes and nothing is settled
kept_progress : (v : SchedulerView) (readers sources : List ℕ) (left d : ℕ) (p : Progress) → IsKept v readers sources left → d < length v.progress → is_settled p ≡ is_settled (slice_index_or v.progress d Unclaimed)
    → ((r worker : ℕ) → (state_in (progressed v d p)).claimed r ≡ Some worker → IsTrue (to_fill v.moves r)) → IsKept (progressed v d p) readers sources left
kept_progress v readers sources left d p kept lt same fills =
    record {
      table = kept.table;
      flags_all = kept.flags_all;
      progress_all = length-set v.progress d p ∙ kept.progress_all;
      claimed_to_fill = fills;
      counts = record {
        readers_all = kept.counts.readers_all;
        sources_all = kept.counts.sources_all;
        readers_are = kept.counts.readers_are;
        sources_are = kept.counts.sources_are;
        left_is = kept.counts.left_is ∙ ap (λ (f : ℕ → Bool). count_by (λ r. to_fill v.moves r && not (f r)) (range_with_len 0 (region_count v.moves))) (sym (field-set is_settled v.progress d p lt same));
      };
    }

-- a granted claim
pub record Claims (v : SchedulerView) (readers sources : List ℕ) (left worker d : ℕ) : Type 0 where
  pub kept : IsKept (progressed v d (Filling worker)) readers sources left
  pub steps : Steps v worker (Claim d) (Ok Yes) (progressed v d (Filling worker))

pub unclaimed_of : (p : Progress) → claimant_of p ≡ None → p ≡ Unclaimed
unclaimed_of Unclaimed e = refl
unclaimed_of (Filling w) e = let f : Some w ≡ None = e in cc
unclaimed_of (Completed w) e = let f : Some w ≡ None = e in cc
unclaimed_of (Settled w) e = let f : Some w ≡ None = e in cc

pub claims : (v : SchedulerView) (readers sources : List ℕ) (left worker d : ℕ) → IsKept v readers sources left → d < region_count v.moves → slice_index_or v.progress d Unclaimed ≡ Unclaimed → to_fill v.moves d ≡ true
    → may_claim v.moves (state_in v) d ≡ true → Claims v readers sources left worker d
claims v readers sources left worker d kept inside free fills may =
    record {
      kept = kept_progress v readers sources left d (Filling worker) kept lt (sym (ap is_settled free)) (λ r by own. go r by (ap (λ (f : ℕ → Option ℕ). f r) (sym (claim-set v.progress d worker lt)) ∙ own) (cases_eq r d));
      steps = record {
        moves = refl;
        workers = refl;
        step = record {
          allowed = inside;
          replied = rw may refl;
          after = state_is (state_in v) (state_in v).drained _ _ _ _ _ _ (claim-set v.progress d worker lt) (field-set is_filled v.progress d (Filling worker) lt (sym (ap is_filled free))) (field-set is_settled v.progress d (Filling worker) lt (sym (ap is_settled free)));
        };
      };
    }
  where
    lt : d < length v.progress
    lt = rw kept.progress_all inside

    go : (r by : ℕ) → (if r == d then Some worker else claimant_of (slice_index_or v.progress r Unclaimed)) ≡ Some by → (r ≡ d) ⊎ (r ≡ d → ⊥) → IsTrue (to_fill v.moves r)
    go r by own (inl e) = rw e fills
    go r by own (inr n) = kept.claimed_to_fill r by (rw (ne_eqb r d n) at own)

-- a completion
pub record Completes (v : SchedulerView) (readers sources : List ℕ) (left worker d : ℕ) : Type 0 where
  pub kept : IsKept (progressed v d (Completed worker)) readers sources left
  pub steps : Steps v worker (Complete d) (Ok Done) (progressed v d (Completed worker))

pub completes : (v : SchedulerView) (readers sources : List ℕ) (left worker d : ℕ) → IsKept v readers sources left → slice_index_or v.progress d Unclaimed ≡ Filling worker → sources_left v.moves (state_in v) d ≡ 0
    → Completes v readers sources left worker d
completes v readers sources left worker d kept own none =
    record {
      kept = kept_progress v readers sources left d (Completed worker) kept lt (sym (ap is_settled own)) (λ r by claimed. kept.claimed_to_fill r by (ap (λ (f : ℕ → Option ℕ). f r) (sym claims') ∙ claimed));
      steps = record {
        moves = refl;
        workers = refl;
        step = record {
          allowed = ((ap claimant_of own, ap is_filled own), all_read v.moves (state_in v) d none);
          replied = refl;
          after = state_is (state_in v) (state_in v).drained _ _ _ _ _ _ claims' (test-set is_filled v.progress d (Completed worker) lt refl) (field-set is_settled v.progress d (Completed worker) lt (sym (ap is_settled own)));
        };
      };
    }
  where
    lt : d < length v.progress
    lt = begun_inside v.progress d (Filling worker) own (λ e. cc)

    claims' : ◌≡◌ {A = ℕ → Option ℕ} (λ r. claimant_of (slice_index_or (slice_set v.progress d (Completed worker)) r Unclaimed)) (λ r. claimant_of (slice_index_or v.progress r Unclaimed))
    claims' = field-set claimant_of v.progress d (Completed worker) lt (sym (ap claimant_of own))

-- a settling
pub record Settles (v : SchedulerView) (readers sources : List ℕ) (left worker d : ℕ) : Type 0 where
  pub some : 1 ≤ left
  pub kept : IsKept (progressed v d (Settled worker)) readers sources (left - 1)
  pub steps : (reply : Reply) → reply ≡ all_or_more (unsettled v.moves (state_in (progressed v d (Settled worker)))) → Steps v worker (Settle d) (Ok reply) (progressed v d (Settled worker))

pub settles : (v : SchedulerView) (readers sources : List ℕ) (left worker d : ℕ) → IsKept v readers sources left → slice_index_or v.progress d Unclaimed ≡ Completed worker → Settles v readers sources left worker d
settles v readers sources left worker d kept own =
    record {
      some = let a = kept.counts.left_is in omega (arith, fewer);
      kept = record {
        table = kept.table;
        flags_all = kept.flags_all;
        progress_all = length-set v.progress d (Settled worker) ∙ kept.progress_all;
        claimed_to_fill = λ r by claimed. kept.claimed_to_fill r by (ap (λ (f : ℕ → Option ℕ). f r) (sym claims') ∙ claimed);
        counts = record {
          readers_all = kept.counts.readers_all;
          sources_all = kept.counts.sources_all;
          readers_are = kept.counts.readers_are;
          sources_are = kept.counts.sources_are;
          left_is = let a = kept.counts.left_is in omega (arith, fewer);
        };
      };
      steps = λ reply is. record {
        moves = refl;
        workers = refl;
        step = record {
          allowed = (ap claimant_of own, ap is_filled own, ap is_settled own);
          replied = is ∙ ap (λ (s : State). all_or_more (unsettled v.moves s)) state;
          after = state;
        };
      };
    }
  where
    lt : d < length v.progress
    lt = begun_inside v.progress d (Completed worker) own (λ e. cc)

    claims' : ◌≡◌ {A = ℕ → Option ℕ} (λ r. claimant_of (slice_index_or (slice_set v.progress d (Settled worker)) r Unclaimed)) (λ r. claimant_of (slice_index_or v.progress r Unclaimed))
    claims' = field-set claimant_of v.progress d (Settled worker) lt (sym (ap claimant_of own))

    state : state_in (progressed v d (Settled worker)) ≡ state_after (state_in v) worker (Settle d) All
    state = state_is (state_in v) (state_in v).drained _ _ _ _ _ _ claims' (field-set is_filled v.progress d (Settled worker) lt (sym (ap is_filled own))) (test-set is_settled v.progress d (Settled worker) lt refl)

    fills : to_fill v.moves d ≡ true
    fills = kept.claimed_to_fill d worker (ap claimant_of own)

    at_place : (k : ℕ) (c : ℕ) → k < length (range_with_len 0 (region_count v.moves)) → get_or (range_with_len 0 (region_count v.moves)) k c ≡ k
    at_place k c lt' = get_or-range_with_len 0 (region_count v.moves) k c (rw (← length-range_with_len 0 (region_count v.moves)) lt') ∙ zero_plus k
      where
        zero_plus : (n : ℕ) → 0 + n ≡ n
        zero_plus n = omega arith

    tests : (f : ℕ → Bool) (k c : ℕ) → k < length (range_with_len 0 (region_count v.moves)) → (to_fill v.moves (get_or (range_with_len 0 (region_count v.moves)) k c) && not (f (get_or (range_with_len 0 (region_count v.moves)) k c))) ≡ (to_fill v.moves k && not (f k))
    tests f k c lt' = ap (λ (r : ℕ). to_fill v.moves r && not (f r)) (at_place k c lt')

    in_range : d < length (range_with_len 0 (region_count v.moves))
    in_range = rw (length-range_with_len 0 (region_count v.moves)) (flag_inside v.moves.fill d fills)

    settled_now : (state_in (progressed v d (Settled worker))).settled d ≡ true
    settled_now = ap (λ (f : ℕ → Bool). f d) (test-set is_settled v.progress d (Settled worker) lt refl) ∙ (rw (eq-eqb d d refl) refl)

    settled_as_before : (k : ℕ) → (k ≡ d → ⊥) → (state_in v).settled k ≡ (state_in (progressed v d (Settled worker))).settled k
    settled_as_before k other = sym (ap (λ (f : ℕ → Bool). f k) (test-set is_settled v.progress d (Settled worker) lt refl) ∙ (rw (ne_eqb k d other) refl))

    fewer : unsettled v.moves (state_in v) ≡ unsettled v.moves (state_in (progressed v d (Settled worker))) + 1
    fewer =
        count_by_one_less (λ r. to_fill v.moves r && not ((state_in v).settled r)) (λ r. to_fill v.moves r && not ((state_in (progressed v d (Settled worker))).settled r)) (range_with_len 0 (region_count v.moves)) d 0 in_range
        (tests (state_in v).settled d 0 in_range ∙ and_from (to_fill v.moves d) (not ((state_in v).settled d)) fills (ap not (ap is_settled own)))
        (tests (state_in (progressed v d (Settled worker))).settled d 0 in_range ∙ and_right (to_fill v.moves d) (not ((state_in (progressed v d (Settled worker))).settled d)) (ap not settled_now))
        (λ k c lt' other. tests (state_in v).settled k c lt' ∙ (ap (λ (b : Bool). to_fill v.moves k && not b) (settled_as_before k other) ∙ sym (tests (state_in (progressed v d (Settled worker))).settled k c lt')))

pub filling_of : (p : Progress) (worker : ℕ) → claimant_of p ≡ Some worker → is_filled p ≡ false → p ≡ Filling worker
filling_of Unclaimed worker e f = let g : None ≡ Some worker = e in cc
filling_of (Filling w) worker e f = ap Filling (let g : Some w ≡ Some worker = e in cc)
filling_of (Completed w) worker e f = absurd (false≢true (sym f))
filling_of (Settled w) worker e f = absurd (false≢true (sym f))

pub completed_of : (p : Progress) (worker : ℕ) → claimant_of p ≡ Some worker → is_filled p ≡ true → is_settled p ≡ false → p ≡ Completed worker
completed_of Unclaimed worker e f g = let h : None ≡ Some worker = e in cc
completed_of (Filling w) worker e f g = absurd (false≢true f)
completed_of (Completed w) worker e f g = ap Completed (let h : Some w ≡ Some worker = e in cc)
completed_of (Settled w) worker e f g = absurd (false≢true (sym g))

-- a pair whose flag is set isn't pending
pub drained_pair : (v : SchedulerView) (readers sources : List ℕ) (left d s at : ℕ) → IsKept v readers sources left → IsPlaceOf v.moves.pairs d s at → slice_index_or v.flags at false ≡ true → is_pending v.moves (state_in v) d s ≡ false
drained_pair v readers sources left d s at kept place drained =
    let one : (get_or v.moves.pairs at (0, 0)).0 ≡ d = ap (λ (p : ℕ × ℕ). p.0) (get_or_default v.moves.pairs at (0, 0) (d, s) place.inside ∙ place.is) in
    let two : (get_or v.moves.pairs at (0, 0)).1 ≡ s = ap (λ (p : ℕ × ℕ). p.1) (get_or_default v.moves.pairs at (0, 0) (d, s) place.inside ∙ place.is) in
    let flag : is_flagged d s v.moves.pairs v.flags ≡ true = is_flagged_at d s v.moves.pairs v.flags at (0, 0) kept.table.ascending place.inside kept.flags_all one two ∙ drained in
    and_right (reads v.moves d s) (not (is_flagged d s v.moves.pairs v.flags)) (ap not flag)

-- a look at readers fits
pub few_left : (m : MoveTable) (now : State) (s : ℕ) → IsMoveTable m → readers_left m now s ≤ 2
few_left m now s table =
    let fewer : readers_left m now s ≤ readers_of m s = count_by_fewer (λ pair. s == pair.1 && not (now.drained pair.0 pair.1)) (has_source s) m.pairs (λ pair e. (and_parts (s == pair.1) (not (now.drained pair.0 pair.1)) e).0) in
    let two : readers_of m s ≤ 2 = table.two s in
    omega arith
