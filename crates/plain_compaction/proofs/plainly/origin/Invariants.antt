use Rattle.std.proofs.Common.{ℕ, ◌+◌, ◌<◌, ◌≤◌, get_or}
use Rattle.object_heap.specs.HeapImage.{size_at}
use Rattle.plain_compaction.proofs.plainly.origin.Given as goal

abbrev pub invariant-loop-i : goal.invariant-loop-i
invariant-loop-i l = (k : ℕ) → k < l.i → get_or l.places k 0 ≤ l.p → l.p < get_or l.places k 0 + size_at l.image (get_or l.image.live k 0) → ⊥
