use Rattle.std.proofs.Common.{◌≡◌, ◌+◌, ℕ, List, length}
use Rattle.object_heap.specs.HeapImage.{heap_words}
use Rattle.heap_marking.specs.Marking.{IsMarking, IsReadyBatch, unmarked}
use Rattle.heap_marking.proofs.marking.Marking.follow_all.Given as goal

abbrev pub invariant-loop-self : goal.invariant-loop-self
invariant-loop-self l = record {
  some : (roots : List ℕ) × IsMarking l.heap roots l.self.bits l.self.stack.items l.self.well_formed;
  marking : (roots : List ℕ) → IsMarking l.heap roots l.initial.self.bits l.initial.self.stack.items l.initial.self.well_formed
      → IsMarking l.heap roots l.self.bits l.self.stack.items l.self.well_formed;
  words : l.self.words ≡ heap_words l.heap;
  batch : IsReadyBatch l.batch;
}

-- a turn takes some addresses from the stack, and each that is put there is marked then
abbrev pub decreases-loop-self : goal.decreases-loop-self
decreases-loop-self l = length l.self.stack.items + unmarked l.self.words l.self.bits
