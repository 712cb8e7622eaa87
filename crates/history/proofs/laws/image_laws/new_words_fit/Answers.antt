use Rattle.history.proofs.Lemmas.Carrying.{new_fits}
use Rattle.history.proofs.laws.image_laws.new_words_fit.Goals as goal

pub returns : goal.returns
returns c = new_fits c.plan_laws.ensures
