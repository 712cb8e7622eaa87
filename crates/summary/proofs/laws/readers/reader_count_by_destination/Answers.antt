use Rattle.summary.proofs.laws.readers.reader_count_by_destination.Goals as goal
use Rattle.summary.proofs.Lemmas.Readers.{reader_count-is, reader_count-le}

pub returns : goal.returns
returns c = record { count = reader_count-is; few = reader_count-le }
