use Rattle.history.proofs.Lemmas.TextLaws.{no_schedule}
use Rattle.history.proofs.laws.text_laws.malformed_is_no_schedule.Goals as goal

pub returns : goal.returns
returns c = no_schedule
