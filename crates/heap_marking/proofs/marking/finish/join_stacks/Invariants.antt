use Rattle.heap_marking.proofs.Lemmas.Finish.{AreStackedUp}
use Rattle.heap_marking.proofs.marking.finish.join_stacks.Given as goal

abbrev pub invariant-loop-part : goal.invariant-loop-part
invariant-loop-part l = record {
  stacked : AreStackedUp l.parts l.part-index l.stack.items;
}
