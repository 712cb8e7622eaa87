use Rattle.scheduler.proofs.Lemmas.Reaches.{legal_reached}
use Rattle.scheduler.proofs.laws.what_legal_histories_keep.Goals as goal

pub returns : goal.returns
returns c = legal_reached
