use Rattle.summary.proofs.laws.new_addresses.new_address_by_counting.Goals as goal
use Rattle.summary.proofs.Lemmas.Addresses.{new_address-slid}

pub returns : goal.returns
returns c = new_address-slid
