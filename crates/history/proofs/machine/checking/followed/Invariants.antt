use Rattle.history.proofs.Lemmas.Following.{IsFollowed}
use Rattle.history.proofs.machine.checking.followed.Given as goal

abbrev pub invariant-loop-i : goal.invariant-loop-i
invariant-loop-i l = IsFollowed l.plan l.schedule l.i l.ledger
