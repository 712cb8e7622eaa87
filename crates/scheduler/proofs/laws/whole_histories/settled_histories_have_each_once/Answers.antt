use Rattle.scheduler.proofs.Lemmas.Whole.{each_once}
use Rattle.scheduler.proofs.laws.whole_histories.settled_histories_have_each_once.Goals as goal

pub returns : goal.returns
returns c m workers log table legal all = each_once m workers log table legal all
