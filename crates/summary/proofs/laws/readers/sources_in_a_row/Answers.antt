use Rattle.summary.proofs.laws.readers.sources_in_a_row.Goals as goal
use Rattle.summary.proofs.Lemmas.Readers.{reads-between, next-reads, reads-destination, source-Some, prefix-reads}

pub returns : goal.returns
returns c = record { between = reads-between; next = next-reads; last = reads-destination; first = source-Some; own = prefix-reads }
