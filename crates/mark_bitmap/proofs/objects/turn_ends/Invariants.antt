use Rattle.std.proofs.Common.{◌≡◌, ℕ, ◌+◌, ◌*◌, ◌≤◌, ◌<◌, length, get_or}
use Rattle.object_heap.specs.HeapImage.{is_live_word}
use Rattle.object_heap.specs.Bits.{has}
use Rattle.mark_bitmap.specs.Marks.{continues_at}
use Rattle.mark_bitmap.proofs.Lemmas.Runs.{one}
use Rattle.mark_bitmap.proofs.objects.turn_ends.Given as goal

abbrev pub invariant-loop-i : goal.invariant-loop-i
invariant-loop-i l =
    (length l.words ≡ length l.fn.words)
    × ((k : ℕ) → k < 64 * l.i → has l.words k ≡ is_live_word l.image (64 * l.start + k))
    × (l.carried ≡ one (continues_at l.image (64 * (l.start + l.i))))
    × ((j : ℕ) → l.i ≤ j → get_or l.words j 0 ≡ get_or l.fn.words j 0)
