use Rattle.claim_board.proofs.Lemmas.Apart.{not_read}
use Rattle.claim_board.proofs.laws.no_region_is_read_and_written.Goals as goal

pub returns : goal.returns
returns c = not_read c.what_legal_histories_keep.ensures c.what_own_calls_tell.ensures
