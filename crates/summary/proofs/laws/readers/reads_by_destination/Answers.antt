use Rattle.summary.proofs.laws.readers.reads_by_destination.Goals as goal
use Rattle.summary.proofs.Lemmas.Readers.{reads-targets, targets-read, targets-ordered}

pub returns : goal.returns
returns c = record { targets = reads-targets; read = targets-read; ordered = targets-ordered }
