use Rattle.std.proofs.Common.{ℕ, ◌<◌}
use Rattle.summary.specs.LiveObjects.{object_at}
use Rattle.verification.specs.Explanation.{IsNeighbour}
use Rattle.verification.proofs.comparison_explained.WordComparison.neighbour.Given as goal

abbrev pub invariant-loop-a : goal.invariant-loop-a
invariant-loop-a l = (i : ℕ) → i < l.a-index → IsNeighbour l.self.before.now l.moved l.index l.word (object_at l.self.before.now i) → ⊥
