use Rattle.std.proofs.Common.{◌≡◌, ◌<◌, ◌≤◌, ◌-◌, ℕ, true}
use Rattle.object_heap.specs.Bits.{has}
use Rattle.object_heap.specs.HeapImage.{heap_words, word_at}
use Rattle.heap_marking.proofs.soundness.are_words_marked.Given as goal

-- the words so far are marked references
abbrev pub invariant-loop-next : goal.invariant-loop-next
invariant-loop-next l = record {
  all : (p : ℕ) → l.from ≤ p → p < l.next → (word_at l.heap p ≤ heap_words l.heap) × (has l.marked (word_at l.heap p) ≡ true);
  low : l.from ≤ l.next;
}

-- each turn takes a row of one word or more
abbrev pub decreases-loop-next : goal.decreases-loop-next
decreases-loop-next l = l.to - l.next
