use Rattle.std.proofs.Common.{◌≡◌, ◌+◌, ◌<◌, ℕ, length, get_or}
use Rattle.object_heap.specs.HeapImage.{size_at, with_live}
use Rattle.heap_marking.specs.Soundness.{IsSoundObject}
use Rattle.heap_marking.proofs.soundness.note_sizes.Given as goal

abbrev pub invariant-loop-i : goal.invariant-loop-i
invariant-loop-i l = record {
  room : length l.sizes ≡ 64;
  noted : (j : ℕ) → l.from + j < l.i → 0 < get_or l.sizes j 0
      → IsSoundObject (with_live l.heap l.live) (l.from + j) × (get_or l.sizes j 0 ≡ size_at (with_live l.heap l.live) (get_or l.live (l.from + j) 0));
}
