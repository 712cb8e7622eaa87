use Rattle.std.proofs.Common.{◌≡◌, ℕ, ◌+◌, ◌<◌}
use Rattle.object_heap.specs.HeapImage.{word_at}
use Rattle.verification.proofs.difference.first_nonzero.Given as goal

abbrev pub invariant-loop-j : goal.invariant-loop-j
invariant-loop-j l = (k : ℕ) → k < l.j → word_at l.image (l.at + k) ≡ 0
