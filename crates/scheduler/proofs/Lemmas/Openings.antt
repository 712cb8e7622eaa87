-- A scheduler to which nothing has happened.
use Rattle.std.proofs.Common.{◌≡◌, ℕ, ◌+◌, ◌<◌, ◌≤◌, Bool, false, List, [], length, get_or, take, map, replicate, Some, None, sym, ap, ◌∙◌, inl, inr, ◌⊎◌, arith}
use Rattle.std.proofs.Math.Path.{fun_ext}
use Rattle.std.specs.Prelude.{◌==◌, ◌&&◌, not, slice_index, slice_index_or, slice_set, count_by}
use Rattle.std.specs.List.{range_with_len}
use Rattle.std.proofs.lemmas.Bool.{cases_lt}
use Rattle.std.proofs.lemmas.List.{ext_get_or, length-take-le, get_or_past, get_or-replicate, length-replicate}
use Rattle.std.proofs.lemmas.List.FromFn.{length-map-range_with_len, get_or-map-range_with_len}
use Rattle.std.proofs.lemmas.List.Sums.{count_by-le-length}
use Rattle.scheduler.specs.MoveTable.{MoveTable, IsMoveTable, region_count, to_fill}
use Rattle.scheduler.specs.State.{State, opening, readers_left, unsettled}
use Rattle.scheduler.specs.Progress.{claimant_of, is_filled, is_settled}
use Rattle.scheduler.specs.Scheduler.{SchedulerView, state_in, sources_left, IsKept, ArePairCounts}
use Rattle.scheduler.specs.declared.scheduler.progress.Progress.{Progress}
use Rattle.scheduler.specs.declared.scheduler.progress.Progress.TheVariants.{Unclaimed}
use Rattle.scheduler.proofs.Lemmas.Counting.{count_by_same, count_by-map, and_true}
use Rattle.scheduler.proofs.Lemmas.Flags.{is_flagged-none}
use Rattle.scheduler.proofs.Lemmas.Pairs.{one_more_counted}

-- one pair more is counted
pub ArePairCounts-more : (m : MoveTable) (end_of : ℕ × ℕ → ℕ) (ps : List (ℕ × ℕ)) (i : ℕ) (d : ℕ × ℕ) (counts : List ℕ) → i < length ps → end_of (get_or ps i d) < region_count m → ArePairCounts m end_of (take i ps) counts
    → ArePairCounts m end_of (take (i + 1) ps) (slice_set counts (end_of (get_or ps i d)) (slice_index counts (end_of (get_or ps i d)) + 1))
ArePairCounts-more m end_of ps i d counts lt inside before =
    let more = one_more_counted (region_count m) end_of ps i d counts lt inside (record { room = before.all; each = before.each }) in
    record { all = more.room; each = more.each }

pub ArePairCounts-none : (m : MoveTable) (end_of : ℕ × ℕ → ℕ) (counts : List ℕ) → counts ≡ replicate (region_count m) 0 → ArePairCounts m end_of [] counts
ArePairCounts-none m end_of counts is =
    record {
      all = rw is (length-replicate (region_count m) 0);
      each = λ r lt. rw is (get_or-replicate (region_count m) r 0 0 lt);
    }

-- no count passes the number of pairs
pub tally_le : (m : MoveTable) (end_of : ℕ × ℕ → ℕ) (ps : List (ℕ × ℕ)) (i r : ℕ) (counts : List ℕ) → i ≤ length ps → r < region_count m → ArePairCounts m end_of (take i ps) counts → slice_index counts r ≤ i
tally_le m end_of ps i r counts le lt tallies =
    let is = tallies.each r lt in
    let few = count_by-le-length (λ pair. r == end_of pair) (take i ps) in
    let len : length (take i ps) ≡ i = length-take-le i ps le in
    omega arith

-- the flags of a list, counted by their places
pub count_of_flags : (flags : List Bool) → count_by (λ b. b) flags ≡ count_by (λ r. slice_index_or flags r false) (range_with_len 0 (length flags))
count_of_flags flags = ap (λ (bs : List Bool). count_by (λ b. b) bs) (sym places) ∙ count_by-map (λ b. b) (λ r. slice_index_or flags r false) (range_with_len 0 (length flags))
  where
    places : map (λ r. slice_index_or flags r false) (range_with_len 0 (length flags)) ≡ flags
    places =
        ext_get_or false (map (λ r. slice_index_or flags r false) (range_with_len 0 (length flags))) flags (length-map-range_with_len (λ r. slice_index_or flags r false) 0 (length flags))
        (λ i lt. get_or-map-range_with_len (λ r. slice_index_or flags r false) 0 (length flags) i i false (rw (← length-map-range_with_len (λ r. slice_index_or flags r false) 0 (length flags)) lt) (zero_plus i))
      where
        zero_plus : (n : ℕ) → 0 + n ≡ n
        zero_plus n = omega arith

-- at the opening no region is settled
pub unsettled-opening : (m : MoveTable) → count_by (λ b. b) m.fill ≡ unsettled m opening
unsettled-opening m =
    count_of_flags m.fill
    ∙ count_by_same (λ r. to_fill m r) (λ r. to_fill m r && not false) (range_with_len 0 (region_count m)) (λ k d lt. sym (and_true (to_fill m (get_or (range_with_len 0 (region_count m)) k d))))

-- the invariant of a new scheduler
pub record IsOpening (v : SchedulerView) (readers sources : List ℕ) (left : ℕ) : Type 0 where
  pub state : state_in v ≡ opening
  pub kept : IsKept v readers sources left

pub opening_kept : (v : SchedulerView) (readers sources : List ℕ) (left : ℕ) → IsMoveTable v.moves → v.flags ≡ replicate (length v.moves.pairs) false → v.progress ≡ replicate (region_count v.moves) Unclaimed
    → ArePairCounts v.moves (λ pair. pair.1) v.moves.pairs readers → ArePairCounts v.moves (λ pair. pair.0) v.moves.pairs sources → left ≡ count_by (λ b. b) v.moves.fill → IsOpening v readers sources left
opening_kept v readers sources left table flags progress reads' takes count =
    record {
      state = state;
      kept = record {
        table = table;
        flags_all = rw flags (length-replicate (length v.moves.pairs) false);
        progress_all = rw progress (length-replicate (region_count v.moves) Unclaimed);
        claimed_to_fill = λ r worker own. let f : None ≡ Some worker = sym (ap (λ (s : State). s.claimed r) state) ∙ own in cc;
        counts = record {
          readers_all = reads'.all;
          sources_all = takes.all;
          readers_are = λ s lt. reads'.each s lt ∙ (every (λ pair. s == pair.1) ∙ ap (λ (n : State). readers_left v.moves n s) (sym state));
          sources_are = λ d lt. takes.each d lt ∙ (every (λ pair. d == pair.0) ∙ ap (λ (n : State). sources_left v.moves n d) (sym state));
          left_is = count ∙ (unsettled-opening v.moves ∙ ap (λ (n : State). unsettled v.moves n) (sym state));
        };
      };
    }
  where
    every : (p : ℕ × ℕ → Bool) → count_by p v.moves.pairs ≡ count_by (λ pair. p pair && not false) v.moves.pairs
    every p = count_by_same p (λ pair. p pair && not false) v.moves.pairs (λ k d lt. sym (and_true (p (get_or v.moves.pairs k d))))

    unflagged : (k : ℕ) → k < length v.flags → get_or v.flags k false ≡ false
    unflagged k lt =
        let n : length v.flags ≡ length v.moves.pairs = rw flags (length-replicate (length v.moves.pairs) false) in
        rw flags (get_or-replicate (length v.moves.pairs) k false false (rw (← n) lt))

    unclaimed : (r : ℕ) → (r < region_count v.moves) ⊎ (region_count v.moves ≤ r) → slice_index_or v.progress r Unclaimed ≡ Unclaimed
    unclaimed r (inl lt) = rw progress (get_or-replicate (region_count v.moves) r Unclaimed Unclaimed lt)
    unclaimed r (inr le) = get_or_past v.progress r Unclaimed (rw progress (rw (length-replicate (region_count v.moves) Unclaimed) le))

    state : state_in v ≡ opening
    state =
        let a : (state_in v).drained ≡ opening.drained = fun_ext (λ d. fun_ext (λ s. is_flagged-none d s v.moves.pairs v.flags unflagged)) in
        let p : ◌≡◌ {A = ℕ → Progress} (λ r. slice_index_or v.progress r Unclaimed) (λ r. Unclaimed) = fun_ext (λ r. unclaimed r (cases_lt r (region_count v.moves))) in
        λ i. record { drained = a i; claimed = λ r. claimant_of (p i r); filled = λ r. is_filled (p i r); settled = λ r. is_settled (p i r) }
