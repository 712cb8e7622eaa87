use Rattle.std.proofs.Common.{◌+◌}
use Rattle.verification.specs.Explanation.{IsTallyOf}
use Rattle.verification.proofs.comparison_explained.WordComparison.compare_references.Given as goal

abbrev pub invariant-loop-f : goal.invariant-loop-f
invariant-loop-f l = IsTallyOf l.self.before.now l.self.after.now (l.place + 1 + l.f) l.tally
