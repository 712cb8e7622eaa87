use Rattle.summary.proofs.Lemmas.Compacted.{compact-reachable}
use Rattle.summary.proofs.laws.compaction.compaction_keeps_the_reachable.Goals as goal

pub returns : goal.returns
returns c = compact-reachable c.live_laws.ensures
