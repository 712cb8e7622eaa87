use Rattle.scheduler.proofs.Lemmas.GoingOnCounts.{all_changes}
use Rattle.scheduler.proofs.laws.going_on.changes_are_counted.Goals as goal

pub returns : goal.returns
returns c = all_changes
