use Rattle.claim_board.proofs.Lemmas.Sweeps.{leaves_tickets}
use Rattle.claim_board.proofs.laws.other_calls_leave_tickets.Goals as goal

pub returns : goal.returns
returns c = leaves_tickets
