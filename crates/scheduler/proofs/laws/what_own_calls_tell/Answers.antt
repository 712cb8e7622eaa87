use Rattle.scheduler.proofs.Lemmas.Own.{own_calls}
use Rattle.scheduler.proofs.laws.what_own_calls_tell.Goals as goal

pub returns : goal.returns
returns c = own_calls
