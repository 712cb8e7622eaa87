-- How the counts of readers, sources and unsettled regions go down.
use Rattle.std.proofs.Common.{◌≡◌, ℕ, ◌+◌, ◌<◌, Bool, true, false, length, get_or, refl, sym, ap, ◌∙◌, arith}
use Rattle.std.specs.Prelude.{◌==◌, ◌&&◌, ◌||◌, not, IsTrue}
use Rattle.std.specs.List.{range_with_len}
use Rattle.std.proofs.lemmas.List.FromFn.{length-range_with_len, get_or-range_with_len}
use Rattle.std.proofs.lemmas.Bool.{not-true, and_parts, and_from, and_right, eq-eqb, ne_eqb}
use Rattle.scheduler.specs.MoveTable.{MoveTable, IsMoveTable, region_count, to_fill, reads}
use Rattle.scheduler.specs.State.{State, is_pending, unsettled, state_after}
use Rattle.scheduler.specs.History.{CountsDown}
use Rattle.scheduler.specs.declared.event.Event.TheVariants.{Settle}
use Rattle.scheduler.specs.declared.reply.Reply.{Reply}
use Rattle.scheduler.proofs.Lemmas.Counting.{count_by_one_less}
use Rattle.scheduler.proofs.Lemmas.Pairs.{flag_inside, placed, IsPlaced}
use Rattle.scheduler.proofs.Lemmas.Reaches.{nobody_left}
use Rattle.scheduler.proofs.Lemmas.Stepping.{left_by_less, left_by_other, all_read, none_left, few_left}

-- the pair that is pending, with its place
pending_parts : (m : MoveTable) (now : State) (d s : ℕ) → IsTrue (is_pending m now d s) → (reads m d s ≡ true) × (not (now.drained d s) ≡ true)
pending_parts m now d s e = and_parts (reads m d s) (not (now.drained d s)) e

place : (m : MoveTable) (now : State) (d s : ℕ) → IsTrue (is_pending m now d s) → IsPlaced m.pairs d s
place m now d s e = placed m.pairs d s (pending_parts m now d s e).0

undrained : (m : MoveTable) (now : State) (d s : ℕ) → IsTrue (is_pending m now d s) → now.drained d s ≡ false
undrained m now d s e = not-true (now.drained d s) (pending_parts m now d s e).1

-- one region fewer isn't settled
settles_one : (m : MoveTable) (now : State) (worker d : ℕ) (reply : Reply) → IsTrue (to_fill m d) → now.settled d ≡ false → unsettled m now ≡ unsettled m (state_after now worker (Settle d) reply) + 1
settles_one m now worker d reply fills open' =
    count_by_one_less (λ r. to_fill m r && not (now.settled r)) (λ r. to_fill m r && not (r == d || now.settled r)) (range_with_len 0 (region_count m)) d 0 in_range
    (tests now.settled d 0 in_range ∙ and_from (to_fill m d) (not (now.settled d)) fills (ap not open'))
    (tests (λ r. r == d || now.settled r) d 0 in_range ∙ and_right (to_fill m d) (not (d == d || now.settled d)) (ap (λ (b : Bool). not (b || now.settled d)) (eq-eqb d d refl)))
    (λ k c lt other. tests now.settled k c lt ∙ (ap (λ (b : Bool). to_fill m k && not (b || now.settled k)) (sym (ne_eqb k d other)) ∙ sym (tests (λ r. r == d || now.settled r) k c lt)))
  where
    at_place : (k : ℕ) (c : ℕ) → k < length (range_with_len 0 (region_count m)) → get_or (range_with_len 0 (region_count m)) k c ≡ k
    at_place k c lt = get_or-range_with_len 0 (region_count m) k c (rw (← length-range_with_len 0 (region_count m)) lt) ∙ zero_plus k
      where
        zero_plus : (n : ℕ) → 0 + n ≡ n
        zero_plus n = omega arith

    tests : (f : ℕ → Bool) (k c : ℕ) → k < length (range_with_len 0 (region_count m)) → (to_fill m (get_or (range_with_len 0 (region_count m)) k c) && not (f (get_or (range_with_len 0 (region_count m)) k c))) ≡ (to_fill m k && not (f k))
    tests f k c lt = ap (λ (r : ℕ). to_fill m r && not (f r)) (at_place k c lt)

    in_range : d < length (range_with_len 0 (region_count m))
    in_range = rw (length-range_with_len 0 (region_count m)) (flag_inside m.fill d fills)

pub counts_down : (m : MoveTable) (now : State) → IsMoveTable m → CountsDown m now
counts_down m now table =
    record {
      few = λ s. few_left m now s table;
      no_reader = λ d s none. nobody_left m now s none d;
      no_source = λ d s none. all_read m now d none s;
      none_left = λ d idle. none_left m now d idle;
      readers = λ worker d s reply e. let q = place m now d s e in left_by_less (λ p. p.1) m now.drained d s q.at s table q.inside q.first q.second (undrained m now d s e) (sym (q.second (0, 0)));
      readers_of_others = λ worker d s k reply e other. let q = place m now d s e in left_by_other (λ p. p.1) m now.drained d s q.at k table q.inside q.first q.second (λ z. other (z ∙ q.second (0, 0)));
      sources = λ worker d s reply e. let q = place m now d s e in left_by_less (λ p. p.0) m now.drained d s q.at d table q.inside q.first q.second (undrained m now d s e) (sym (q.first (0, 0)));
      sources_of_others = λ worker d s k reply e other. let q = place m now d s e in left_by_other (λ p. p.0) m now.drained d s q.at k table q.inside q.first q.second (λ z. other (z ∙ q.first (0, 0)));
      unsettled_one = λ worker d reply fills open'. settles_one m now worker d reply fills open';
    }
