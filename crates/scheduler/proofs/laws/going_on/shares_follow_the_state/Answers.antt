use Rattle.std.proofs.Common.{refl}
use Rattle.scheduler.proofs.Lemmas.Shares.{moves_in}
use Rattle.scheduler.proofs.laws.going_on.shares_follow_the_state.Goals as goal

pub returns-clause-moves : goal.returns-clause-moves
returns-clause-moves c = moves_in

pub returns-clause-opening : goal.returns-clause-opening
returns-clause-opening c d s = (refl, refl)
