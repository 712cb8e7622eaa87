use Rattle.std.proofs.Common.{◌+◌}
use Rattle.verification.specs.Compared.{AreCompacted}
use Rattle.verification.proofs.comparison.Comparison.other_reference.Given as goal

abbrev pub invariant-loop-f : goal.invariant-loop-f
invariant-loop-f l = AreCompacted l.self.before.now l.self.after.now (l.place + 1) (l.place + 1 + l.f)
