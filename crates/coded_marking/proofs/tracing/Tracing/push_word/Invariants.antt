use Rattle.coded_marking.proofs.Lemmas.Words.{IsPushing}
use Rattle.coded_marking.proofs.tracing.Tracing.push_word.Given as goal

abbrev pub invariant-loop-a : goal.invariant-loop-a
invariant-loop-a l = IsPushing l.first l.a l.initial.self l.self
