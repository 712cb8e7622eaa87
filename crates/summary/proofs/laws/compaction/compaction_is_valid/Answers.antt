use Rattle.summary.proofs.laws.compaction.compaction_is_valid.Goals as goal
use Rattle.summary.proofs.Lemmas.Compacted.{compact-IsValid}

pub returns : goal.returns
returns c = compact-IsValid c.live_laws.ensures
