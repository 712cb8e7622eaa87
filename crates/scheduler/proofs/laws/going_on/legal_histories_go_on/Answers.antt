use Rattle.scheduler.proofs.Lemmas.GoingOn.{goes_on}
use Rattle.scheduler.proofs.laws.going_on.legal_histories_go_on.Goals as goal

pub returns : goal.returns
returns c = goes_on
