use Rattle.claim_board.proofs.Lemmas.Apart.{none_waits}
use Rattle.claim_board.proofs.laws.writers_have_no_pending_readers.Goals as goal

pub returns : goal.returns
returns c = none_waits c.what_legal_histories_keep.ensures c.what_own_calls_tell.ensures
