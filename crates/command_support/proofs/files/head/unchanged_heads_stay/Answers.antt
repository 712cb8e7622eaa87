use Rattle.command_support.proofs.Lemmas.Heads.{bytes_read-unchanged}
use Rattle.command_support.proofs.files.head.unchanged_heads_stay.Goals as goal

pub returns : goal.returns
returns c = bytes_read-unchanged
