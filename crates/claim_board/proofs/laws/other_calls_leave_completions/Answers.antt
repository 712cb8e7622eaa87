use Rattle.claim_board.proofs.Lemmas.Others.{leaves_dones}
use Rattle.claim_board.proofs.laws.other_calls_leave_completions.Goals as goal

pub returns : goal.returns
returns c = leaves_dones
