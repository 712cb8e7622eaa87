use Rattle.summary.proofs.laws.region_data.region_data_by_words.Goals as goal
use Rattle.summary.proofs.Lemmas.Regions.{data-live_words, partial-front}
use Rattle.summary.proofs.Lemmas.Blocks.{partial-live, partial-before}

pub returns : goal.returns
returns c = record { counted = data-live_words; front = partial-front; live = partial-live; behind = partial-before }
