use Rattle.verification.specs.Searched.{AreNone}
use Rattle.verification.proofs.comparison.first_found.Given as goal

abbrev pub invariant-loop-first : goal.invariant-loop-first
invariant-loop-first l = AreNone l.found l.first-index
