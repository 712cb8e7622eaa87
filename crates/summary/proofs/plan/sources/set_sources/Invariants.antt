use Rattle.summary.proofs.Lemmas.Telling.{Told}
use Rattle.summary.proofs.plan.sources.set_sources.Given as goal

abbrev pub invariant-loop-s : goal.invariant-loop-s
invariant-loop-s l = Told l.image l.s l.regions
