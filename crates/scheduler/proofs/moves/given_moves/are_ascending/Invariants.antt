use Rattle.std.proofs.Common.{◌≡◌, ℕ, ◌<◌, true}
use Rattle.std.specs.Prelude.{slice_index_or}
use Rattle.scheduler.specs.MoveTable.{is_before}
use Rattle.scheduler.proofs.moves.given_moves.are_ascending.Given as goal

abbrev pub invariant-loop-i : goal.invariant-loop-i
invariant-loop-i l = (j k : ℕ) (d : ℕ × ℕ) → j < k → k < l.i → is_before (slice_index_or l.pairs j d) (slice_index_or l.pairs k d) ≡ true
