use Rattle.claim_board.proofs.Lemmas.Spares.{leaves_rights, leaves_openings}
use Rattle.claim_board.proofs.laws.other_calls_leave_openings.Goals as goal

pub returns-clause-rights : goal.returns-clause-rights
returns-clause-rights c = leaves_rights

pub returns-clause-openings : goal.returns-clause-openings
returns-clause-openings c = leaves_openings
