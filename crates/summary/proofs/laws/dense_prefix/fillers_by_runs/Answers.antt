use Rattle.summary.proofs.laws.dense_prefix.fillers_by_runs.Goals as goal
use Rattle.summary.proofs.Lemmas.Runs.{compact-filler, moved-filler}
use Rattle.summary.proofs.Lemmas.Fillers.{dead_run-of, filler-first, filler-rest, compacted-dead, moved-dead}

pub returns : goal.returns
returns c = record { run = dead_run-of; header = filler-first; zeros = filler-rest; compacted = compacted-dead; moved = moved-dead; compacted_run = compact-filler; moved_run = moved-filler }
