use Rattle.history.proofs.Lemmas.Carrying.{AreFlagsOf, late_test}
use Rattle.history.proofs.machine.references.late_references.Given as goal

abbrev pub invariant-loop-a : goal.invariant-loop-a
invariant-loop-a l = AreFlagsOf l.image (late_test l.image) l.a-index l.flags.items
