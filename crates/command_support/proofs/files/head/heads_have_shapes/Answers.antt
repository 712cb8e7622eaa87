use Rattle.command_support.proofs.Lemmas.Heads.{image-read}
use Rattle.command_support.proofs.files.head.heads_have_shapes.Goals as goal

pub returns : goal.returns
returns c = image-read
