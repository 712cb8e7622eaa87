use Rattle.summary.proofs.laws.new_addresses.new_top_by_counting.Goals as goal
use Rattle.summary.proofs.Lemmas.Addresses.{new_top-live_words}

pub returns : goal.returns
returns c = new_top-live_words
