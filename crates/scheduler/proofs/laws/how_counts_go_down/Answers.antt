use Rattle.scheduler.proofs.Lemmas.Countdown.{counts_down}
use Rattle.scheduler.proofs.laws.how_counts_go_down.Goals as goal

pub returns : goal.returns
returns c = counts_down
