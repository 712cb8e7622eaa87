use Rattle.heap_image.proofs.Lemmas.WholeBytes.{decodes_only}
use Rattle.heap_image.proofs.laws.text_is_read_back.Goals as goal

pub returns : goal.returns
returns c = decodes_only
