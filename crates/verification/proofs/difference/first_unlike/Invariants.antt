use Rattle.std.proofs.Common.{◌≡◌, ℕ, ◌+◌, ◌<◌}
use Rattle.object_heap.specs.HeapImage.{word_at}
use Rattle.verification.proofs.difference.first_unlike.Given as goal

abbrev pub invariant-loop-j : goal.invariant-loop-j
invariant-loop-j l = (k : ℕ) → k < l.j → word_at l.image (l.at + k) ≡ word_at l.wanted (l.from + k)
