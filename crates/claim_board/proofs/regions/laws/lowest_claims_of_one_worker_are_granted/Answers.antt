use Rattle.claim_board.proofs.Lemmas.Alone.{always_granted}
use Rattle.claim_board.proofs.regions.laws.lowest_claims_of_one_worker_are_granted.Goals as goal

pub returns : goal.returns
returns c = always_granted c.lowest_claims_are_granted.ensures.granted c.lowest_claims_are_granted.ensures.alone
