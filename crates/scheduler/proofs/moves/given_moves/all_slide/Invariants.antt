use Rattle.std.proofs.Common.{ℕ, ◌<◌}
use Rattle.std.specs.Prelude.{slice_index_or}
use Rattle.scheduler.specs.MoveTable.{Slides}
use Rattle.scheduler.proofs.moves.given_moves.all_slide.Given as goal

abbrev pub invariant-loop-d : goal.invariant-loop-d
invariant-loop-d l = (k : ℕ) (e : ℕ × ℕ) → k < l.d-index → Slides l.fill (slice_index_or l.pairs k e)
