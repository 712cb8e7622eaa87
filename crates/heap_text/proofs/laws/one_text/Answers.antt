use Rattle.heap_text.proofs.Lemmas.OneText.{one_image}
use Rattle.heap_text.proofs.laws.one_text.Goals as goal

pub returns : goal.returns
returns c = one_image
