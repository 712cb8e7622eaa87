use Rattle.summary.proofs.laws.compaction.compaction_by_objects.Goals as goal
use Rattle.summary.proofs.Lemmas.Runs.{compact-object, compacted-top, carried-object, compact-zeros}

pub returns : goal.returns
returns c = record { object = compact-object; zeros = compacted-top; carried = carried-object; zeros_block = compact-zeros }
