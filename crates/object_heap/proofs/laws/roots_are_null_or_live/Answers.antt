use Rattle.object_heap.proofs.Lemmas.RootLive.{roots-live}
use Rattle.object_heap.proofs.laws.roots_are_null_or_live.Goals as goal

pub returns : goal.returns
returns c = roots-live
