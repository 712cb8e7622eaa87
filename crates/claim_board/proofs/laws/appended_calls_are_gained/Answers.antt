use Rattle.claim_board.proofs.Lemmas.Others.{gains_call}
use Rattle.claim_board.proofs.laws.appended_calls_are_gained.Goals as goal

pub returns : goal.returns
returns c = gains_call
