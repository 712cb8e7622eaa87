use Rattle.std.proofs.Common.{arith, sym, ◌∙◌}
use Rattle.scheduler.proofs.Lemmas.Pairs.{more_ascending}
use Rattle.scheduler.proofs.moves.given_moves.are_ascending.Goals as goal

pub loop-i-preserved : goal.loop-i-preserved
loop-i-preserved c = more_ascending c.args.pairs.now c.loop-i.i _ _ (omega arith) (omega arith) c.loop-i.invariant (sym c.is_before.ensures ∙ c.if-not-is_before.false)
