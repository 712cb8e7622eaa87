use Rattle.std.proofs.Common.{◌≡◌, ◌+◌, ℕ, Bool, cond, List, []}
use Rattle.object_heap.specs.HeapImage.{heap_words}
use Rattle.coded_marking.specs.Tracing.{IsSteady, IsUnderway, absent}
use Rattle.coded_marking.proofs.tracing.Tracing.finish.Given as goal

abbrev pub invariant-loop-self : goal.invariant-loop-self
invariant-loop-self l = record {
  steady : IsSteady l.self;
  words : l.self.words ≡ l.initial.self.words;
  goes_on : (roots : List ℕ) (before : ℕ → Bool) → IsUnderway l.heap roots before (heap_words l.heap) [] l.initial.self → IsUnderway l.heap roots before (heap_words l.heap) [] l.self;
  empty : l.self.stack.items ≡ [];
}

-- a turn follows an address more, or ends with a complete stack
abbrev pub decreases-loop-self : goal.decreases-loop-self
decreases-loop-self l = absent l.self.words l.self.followed + cond l.self.complete 0 1
