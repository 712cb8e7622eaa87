use Rattle.std.proofs.Common.{◌≡◌, ◌≤◌, vec_len}
use Rattle.std.specs.Vec.{vec_capacity}
use Rattle.object_heap.specs.HeapImage.{HeapImage}
use Rattle.heap_marking.specs.Soundness.{AreAllNoted}
use Rattle.heap_marking.proofs.noted_pieces.without_sizes.Given as goal

-- no size of the pieces so far is noted
abbrev pub invariant-loop : goal.invariant-loop
invariant-loop l = record {
  count : vec_len l.sizes ≡ l.counter;
  room : l.fn.count ≤ vec_capacity l.sizes;
  none : (image : HeapImage) → AreAllNoted image l.sizes.items;
}
