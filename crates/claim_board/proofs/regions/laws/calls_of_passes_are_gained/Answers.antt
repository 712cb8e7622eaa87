use Rattle.claim_board.proofs.Lemmas.Others.{gains_to}
use Rattle.claim_board.proofs.regions.laws.calls_of_passes_are_gained.Goals as goal

pub returns : goal.returns
returns c = gains_to
