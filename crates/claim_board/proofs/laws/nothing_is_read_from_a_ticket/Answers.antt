use Rattle.claim_board.proofs.Lemmas.Apart.{nothing_read}
use Rattle.claim_board.proofs.laws.nothing_is_read_from_a_ticket.Goals as goal

pub returns : goal.returns
returns c = nothing_read c.what_legal_histories_keep.ensures c.what_own_calls_tell.ensures
