use Rattle.std.proofs.Common.{◌≡◌, ℕ, ◌<◌, false, List}
use Rattle.std.specs.Prelude.{All}
use Rattle.object_heap.specs.HeapImage.{heap_words, with_live}
use Rattle.object_heap.specs.ObjectFaults.{is_dangling}
use Rattle.object_heap.specs.Bits.{MarkBegins}
use Rattle.heap_image.proofs.check.dangling_field.Given as goal

abbrev pub invariant-loop-field : goal.invariant-loop-field
invariant-loop-field l = (live : List ℕ) → All (λ b. b < heap_words l.heap) live → MarkBegins live (heap_words l.heap) l.bits
    → (k : ℕ) → k < l.field → is_dangling (with_live l.heap live) (l.a, k) ≡ false
