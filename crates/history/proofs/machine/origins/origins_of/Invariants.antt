use Rattle.std.proofs.Common.{◌-◌}
use Rattle.object_heap.specs.HeapImage.{heap_words}
use Rattle.history.proofs.Lemmas.Carrying.{IsListed}
use Rattle.history.proofs.machine.origins.origins_of.Given as goal

abbrev pub invariant-loop-q : goal.invariant-loop-q
invariant-loop-q l = IsListed l.plan l.origins.items l.from

abbrev pub decreases-loop-q : goal.decreases-loop-q
decreases-loop-q l = heap_words l.plan - l.from
