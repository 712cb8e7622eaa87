use Rattle.claim_board.proofs.Lemmas.Others.{leaves_call}
use Rattle.claim_board.proofs.laws.appended_calls_leave_others.Goals as goal

pub returns : goal.returns
returns c = leaves_call
