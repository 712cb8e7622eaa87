use Rattle.verification.specs.Explanation.{IsTallyOf}
use Rattle.verification.proofs.comparison_explained.WordComparison.compare_filler.Given as goal

abbrev pub invariant-loop-p : goal.invariant-loop-p
invariant-loop-p l = IsTallyOf l.self.before.now l.self.after.now l.p l.tally
