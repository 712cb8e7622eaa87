use Rattle.heap_marking.proofs.Lemmas.Joins.{AreJoined}
use Rattle.heap_marking.proofs.marking.finish.join_bits.Given as goal

abbrev pub invariant-loop-part : goal.invariant-loop-part
invariant-loop-part l = record {
  joined : AreJoined l.fn.log l.parts l.part-index l.joined.items;
}
