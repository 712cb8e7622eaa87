use Rattle.history.proofs.Lemmas.Copies.{IsUnderWay}
use Rattle.history.proofs.machine.replaying.carry_out.Given as goal

abbrev pub invariant-loop-i : goal.invariant-loop-i
invariant-loop-i l = IsUnderWay l.plan l.schedule l.i l.ledger l.lines.items l.heap
