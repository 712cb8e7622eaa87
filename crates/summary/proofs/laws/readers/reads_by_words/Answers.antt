use Rattle.summary.proofs.laws.readers.reads_by_words.Goals as goal
use Rattle.summary.proofs.Lemmas.Readers.{reads-word, word_reads, reads-below, reads-filled, reads-prefix, reads-in_range}

pub returns : goal.returns
returns c = record { word = reads-word; read = word_reads; below = reads-below; filled = reads-filled; prefix = reads-prefix; in_range = reads-in_range }
