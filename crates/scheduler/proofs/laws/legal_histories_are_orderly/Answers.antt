use Rattle.scheduler.proofs.Lemmas.Orders.{orderly}
use Rattle.scheduler.proofs.laws.legal_histories_are_orderly.Goals as goal

pub returns : goal.returns
returns c = orderly
