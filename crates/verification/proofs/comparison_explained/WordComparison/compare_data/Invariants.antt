use Rattle.std.proofs.Common.{◌+◌}
use Rattle.verification.specs.Explanation.{IsTallyOf}
use Rattle.verification.proofs.comparison_explained.WordComparison.compare_data.Given as goal

abbrev pub invariant-loop-j : goal.invariant-loop-j
invariant-loop-j l = IsTallyOf l.self.before.now l.self.after.now (l.place + l.j) l.tally
