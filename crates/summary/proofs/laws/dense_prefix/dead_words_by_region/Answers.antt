use Rattle.summary.proofs.laws.dense_prefix.dead_words_by_region.Goals as goal
use Rattle.summary.proofs.Lemmas.Steps.{dead-live, dead-more, dead-region}

pub returns : goal.returns
returns c = record { live = dead-live; more = dead-more; region = dead-region }
