use Rattle.std.proofs.Common.{◌+◌, ℕ, List, length}
use Rattle.object_heap.specs.HeapImage.{heap_words}
use Rattle.heap_marking.specs.Marking.{IsReadyBatch}
use Rattle.heap_marking.specs.Spread.{IsPart, AreWaiting, IsRunning, open_in}
use Rattle.heap_marking.specs.declared.marking.part.Part.{Part}
use Rattle.heap_marking.proofs.marking.part.Part.follow_all.Given as goal

abbrev pub invariant-loop-self : goal.invariant-loop-self
invariant-loop-self l = record {
  running : (sent : List (List (List ℕ))) → (p : Part) → IsRunning l.fn.log l.heap sent p l.initial.self l.initial.self.stack.items → IsRunning l.fn.log l.heap sent p l.self l.self.stack.items;
  part : IsPart l.fn.log (heap_words l.heap) l.self;
  inside : AreWaiting l.fn.log (heap_words l.heap) l.self;
  batch : IsReadyBatch l.batch;
}

-- a turn takes some addresses from the stack, and each that is put there is marked then
abbrev pub decreases-loop-self : goal.decreases-loop-self
decreases-loop-self l = length l.self.stack.items + open_in l.fn.log l.self
