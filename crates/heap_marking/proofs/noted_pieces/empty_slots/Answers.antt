use Rattle.heap_marking.proofs.Lemmas.Pieces.{none_noted}
use Rattle.heap_marking.proofs.noted_pieces.empty_slots.Goals as goal

pub new-requires : goal.new-requires
new-requires c = none_noted c.args.heap.now 0
