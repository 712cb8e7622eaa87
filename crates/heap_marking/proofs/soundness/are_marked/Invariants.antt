use Rattle.std.proofs.Common.{◌≡◌, ◌<◌, ◌≤◌, ℕ, get_or, true}
use Rattle.object_heap.specs.Bits.{has}
use Rattle.heap_marking.proofs.soundness.are_marked.Given as goal

-- the references so far are at most the number of words, and marked
abbrev pub invariant-loop-reference : goal.invariant-loop-reference
invariant-loop-reference l = (k : ℕ) → k < l.reference-index → (get_or l.references k 0 ≤ l.words) × (has l.marked (get_or l.references k 0) ≡ true)
