use Rattle.std.proofs.Common.{◌≡◌, ◌+◌, ◌++◌, ℕ, List, length, get_or, All}
use Rattle.std.specs.Vec.{vec_capacity}
use Rattle.heap_marking.specs.Marking.{IsMarking, AreStacked, waiting_addresses}
use Rattle.heap_marking.proofs.marking.Marking.take_batch.Given as goal

abbrev pub invariant-loop-self : goal.invariant-loop-self
invariant-loop-self l = record {
  marking : (roots : List ℕ) → IsMarking l.heap roots l.initial.self.bits l.initial.self.stack.items l.initial.self.well_formed
      → IsMarking l.heap roots l.self.bits (l.self.stack.items ++ waiting_addresses l.batch.items) l.self.well_formed;
  fetched : All (λ w. w.header ≡ get_or l.heap.words w.address 0) l.batch.items;
  inside : AreStacked l.self.words l.self.bits l.self.stack.items;
  total : length l.self.stack.items + length l.batch.items ≡ length l.initial.self.stack.items;
  bits : l.self.bits ≡ l.initial.self.bits;
  words : l.self.words ≡ l.initial.self.words;
  batch_capacity : vec_capacity l.batch ≡ vec_capacity l.initial.batch;
}

-- each turn takes one address from the stack
abbrev pub decreases-loop-self : goal.decreases-loop-self
decreases-loop-self l = length l.self.stack.items
