use Rattle.std.proofs.Common.{◌≡◌, ℕ, ◌<◌, ◌≤◌, ◌-◌, length}
use Rattle.std.specs.Prelude.{slice_index_or}
use Rattle.scheduler.proofs.moves.indexed_moves.end_of_pairs.Given as goal

abbrev pub invariant-loop-place : goal.invariant-loop-place
invariant-loop-place l = record {
  from : l.first ≤ l.place;
  inside : l.place ≤ length l.pairs;
  own : (k : ℕ) (e : ℕ × ℕ) → l.first ≤ k → k < l.place → (slice_index_or l.pairs k e).0 ≡ l.destination;
}

abbrev pub decreases-loop-place : goal.decreases-loop-place
decreases-loop-place l = length l.pairs - l.place
