use Rattle.heap_marking.proofs.Lemmas.Ones.{addresses-below}
use Rattle.heap_marking.proofs.laws.marks_are_listed.Goals as goal

pub returns : goal.returns
returns c = addresses-below
