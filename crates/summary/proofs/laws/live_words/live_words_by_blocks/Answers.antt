use Rattle.summary.proofs.laws.live_words.live_words_by_blocks.Goals as goal
use Rattle.summary.proofs.Lemmas.Words.{live_words-add}
use Rattle.summary.proofs.Lemmas.Blocks.{live_words-blocks, live_words-ends, live_words-cut}

pub returns : goal.returns
returns c = record { parts = live_words-add; blocks = live_words-blocks; ends = live_words-ends; cut = live_words-cut }
