use Rattle.claim_board.proofs.Lemmas.Sweeps.{none_left}
use Rattle.claim_board.proofs.laws.swept_tickets_have_none_left.Goals as goal

pub returns : goal.returns
returns c = none_left c.how_counts_go_down.ensures
