use Rattle.std.proofs.Common.{◌≡◌, All, length, vec_len}
use Rattle.object_heap.specs.HeapImage.{HeapImage}
use Rattle.heap_marking.specs.Soundness.{AreAllNoted}
use Rattle.heap_marking.proofs.noted_pieces.sizes_in.Given as goal

-- all sizes so far are noted at their places
abbrev pub invariant-loop-slot : goal.invariant-loop-slot
invariant-loop-slot l = record {
  count : length l.sizes.items ≡ length l.fn.slots.items;
  noted : (image : HeapImage) → All (λ slot. slot ≡ image) l.fn.slots.items
      → All (λ slot. slot ≡ image) l.slots.items × AreAllNoted image l.sizes.items;
}

abbrev pub decreases-loop-slot : goal.decreases-loop-slot
decreases-loop-slot l = vec_len l.slots
