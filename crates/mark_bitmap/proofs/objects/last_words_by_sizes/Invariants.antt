use Rattle.std.proofs.Common.{◌≡◌, ◌-◌, length, map, take}
use Rattle.object_heap.specs.HeapImage.{end_of}
use Rattle.mark_bitmap.proofs.objects.last_words_by_sizes.Given as goal

abbrev pub invariant-loop-i : goal.invariant-loop-i
invariant-loop-i l =
    (length l.lasts ≡ 64)
    × (take l.i l.lasts ≡ map (λ a. end_of l.image a - 1) (take l.i l.objects))
