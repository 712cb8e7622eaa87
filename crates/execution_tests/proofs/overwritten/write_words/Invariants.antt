use Rattle.std.proofs.Common.{◌≡◌, ℕ, ◌<◌, length, get_or}
use Rattle.object_heap.specs.HeapImage.{region_words}
use Rattle.execution_tests.proofs.overwritten.write_words.Given as goal

-- the first words are written
abbrev pub invariant-loop-i : goal.invariant-loop-i
invariant-loop-i l =
    (length l.target.words ≡ region_words l.target.image)
    × (l.target.image ≡ l.fn.target.image)
    × (l.target.right ≡ l.fn.target.right)
    × ((k : ℕ) → k < l.i → get_or l.target.words k 0 ≡ get_or l.words k 0)
