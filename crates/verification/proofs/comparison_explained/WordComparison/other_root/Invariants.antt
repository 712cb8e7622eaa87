use Rattle.std.proofs.Common.{◌≡◌, ℕ, ◌<◌}
use Rattle.std.specs.Prelude.{slice_index}
use Rattle.summary.specs.Compaction.{redirected}
use Rattle.verification.specs.Verdict.{root_at}
use Rattle.verification.proofs.comparison_explained.WordComparison.other_root.Given as goal

abbrev pub invariant-loop-i : goal.invariant-loop-i
invariant-loop-i l = (k : ℕ) → k < l.i → slice_index l.found k ≡ redirected l.self.before.now (root_at l.self.before.now k)
