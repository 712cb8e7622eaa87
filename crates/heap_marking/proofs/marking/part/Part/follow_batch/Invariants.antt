use Rattle.std.proofs.Common.{◌≡◌, ◌+◌, ◌++◌, ℕ, List, length, get_or, All}
use Rattle.std.specs.Vec.{vec_capacity}
use Rattle.object_heap.specs.HeapImage.{heap_words}
use Rattle.heap_marking.specs.Marking.{waiting_addresses}
use Rattle.heap_marking.specs.Spread.{IsPart, AreWaitingIn, IsRunning, open_in}
use Rattle.heap_marking.specs.declared.marking.part.Part.{Part}
use Rattle.heap_marking.proofs.marking.part.Part.follow_batch.Given as goal

abbrev pub invariant-loop-object : goal.invariant-loop-object
invariant-loop-object l = record {
  running : (sent : List (List (List ℕ))) → (p : Part) → IsRunning l.fn.log l.heap sent p l.initial.self (l.initial.self.stack.items ++ waiting_addresses l.initial.batch.items)
      → IsRunning l.fn.log l.heap sent p l.self (l.self.stack.items ++ waiting_addresses l.batch.items);
  part : IsPart l.fn.log (heap_words l.heap) l.self;
  inside : AreWaitingIn l.fn.log (heap_words l.heap) l.self (l.self.stack.items ++ waiting_addresses l.batch.items);
  fetched : All (λ w. w.header ≡ get_or l.heap.words w.address 0) l.batch.items;
  total : length l.self.stack.items + open_in l.fn.log l.self ≡ length l.initial.self.stack.items + open_in l.fn.log l.initial.self;
  batch_capacity : vec_capacity l.batch ≡ vec_capacity l.initial.batch;
}

-- each turn takes one object from the batch
abbrev pub decreases-loop-object : goal.decreases-loop-object
decreases-loop-object l = length l.batch.items
