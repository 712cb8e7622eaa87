use Rattle.history.proofs.Lemmas.TextLaws.{one_schedule}
use Rattle.history.proofs.laws.text_laws.one_schedule_a_text.Goals as goal

pub returns : goal.returns
returns c = one_schedule
