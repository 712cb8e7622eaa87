use Rattle.std.proofs.Common.{◌≡◌, ℕ, ◌+◌, ◌*◌, ◌<◌, ◌==◌, length, take}
use Rattle.std.specs.List.{list_any}
use Rattle.object_heap.specs.HeapImage.{end_of}
use Rattle.object_heap.specs.Bits.{has, room}
use Rattle.mark_bitmap.proofs.objects.mark_ends.Given as goal

abbrev pub invariant-loop-piece : goal.invariant-loop-piece
invariant-loop-piece l =
    (length l.ends ≡ length l.fn.ends)
    × ((k : ℕ) → k < room l.fn.ends → has l.ends k ≡ list_any (λ a. end_of l.image a == 64 * l.start + k + 1) (take (64 * l.piece) l.image.live))
