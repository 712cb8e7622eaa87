use Rattle.std.proofs.Common.{◌≡◌, ◌+◌, ◌++◌, ◌<◌, ℕ, List, length, get_or, All}
use Rattle.std.specs.Vec.{vec_capacity}
use Rattle.heap_marking.specs.Marking.{IsMarking, unmarked, waiting_addresses}
use Rattle.heap_marking.proofs.marking.Marking.follow_batch.Given as goal

abbrev pub invariant-loop-object : goal.invariant-loop-object
invariant-loop-object l = record {
  marking : (roots : List ℕ) → IsMarking l.heap roots l.initial.self.bits (l.initial.self.stack.items ++ waiting_addresses l.initial.batch.items) l.initial.self.well_formed
      → IsMarking l.heap roots l.self.bits (l.self.stack.items ++ waiting_addresses l.batch.items) l.self.well_formed;
  inside : All (λ a. a < l.self.words) (waiting_addresses l.batch.items);
  fetched : All (λ w. w.header ≡ get_or l.heap.words w.address 0) l.batch.items;
  room : length l.self.bits ≡ length l.initial.self.bits;
  total : length l.self.stack.items + unmarked l.self.words l.self.bits ≡ length l.initial.self.stack.items + unmarked l.initial.self.words l.initial.self.bits;
  words : l.self.words ≡ l.initial.self.words;
  batch_capacity : vec_capacity l.batch ≡ vec_capacity l.initial.batch;
}

-- each turn takes one object from the batch
abbrev pub decreases-loop-object : goal.decreases-loop-object
decreases-loop-object l = length l.batch.items
