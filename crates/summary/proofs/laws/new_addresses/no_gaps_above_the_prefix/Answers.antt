use Rattle.summary.proofs.laws.new_addresses.no_gaps_above_the_prefix.Goals as goal
use Rattle.summary.proofs.Lemmas.Runs.{place-of}

pub returns : goal.returns
returns c = place-of
