use Rattle.object_heap.proofs.Lemmas.RootsToLive.{live_roots}
use Rattle.object_heap.proofs.laws.live_objects_are_reached.Goals as goal

pub returns : goal.returns
returns c = live_roots
