use Rattle.claim_board.proofs.Lemmas.Sweeps.{one_more}
use Rattle.claim_board.proofs.laws.one_more_source_is_drained.Goals as goal

pub returns : goal.returns
returns c = one_more
