use Rattle.summary.proofs.laws.new_addresses.redirection_by_counting.Goals as goal
use Rattle.summary.proofs.Lemmas.Ranks.{redirected-counted}

pub returns : goal.returns
returns c = redirected-counted
