use Rattle.verification.specs.Explanation.{IsOfNone}
use Rattle.verification.proofs.comparison_explained.WordComparison.part.Given as goal

abbrev pub invariant-loop-a : goal.invariant-loop-a
invariant-loop-a l = IsOfNone l.self.before.now l.a-index l.p
