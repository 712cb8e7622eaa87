use Rattle.history.proofs.Lemmas.Replying.{IsReplying}
use Rattle.history.proofs.machine.replying.lines_with_replies.Given as goal

abbrev pub invariant-loop-i : goal.invariant-loop-i
invariant-loop-i l = IsReplying l.plan l.schedule l.i l.ledger l.lines.items
