use Rattle.std.proofs.Common.{◌≡◌, ◌⊎◌, ◌+◌, ◌≤◌, ℕ, Bool, true, List, length, drop}
use Rattle.object_heap.specs.Bits.{has}
use Rattle.coded_marking.specs.Tracing.{IsSteady, IsHeld, IsUnderway, KeepsFollowed, KeepsStacked, absent}
use Rattle.coded_marking.proofs.tracing.Tracing.follow_batch.Given as goal

-- the first objects are followed
abbrev pub invariant-loop-object : goal.invariant-loop-object
invariant-loop-object l = record {
  steady : IsSteady l.self;
  words : l.self.words ≡ l.initial.self.words;
  goes_on : (roots : List ℕ) (before : ℕ → Bool) (limit : ℕ) → IsUnderway l.heap roots before limit l.batch l.initial.self → IsUnderway l.heap roots before limit (drop l.object-index l.batch) l.self;
  keeps : KeepsFollowed l.initial.self l.self;
  marked : (a : ℕ) → has l.initial.self.marked a ≡ true → has l.self.marked a ≡ true;
  followed : (a : ℕ) → IsHeld l.batch a → (has l.self.followed a ≡ true) ⊎ IsHeld (drop l.object-index l.batch) a;
  stacked : KeepsStacked l.initial.self l.self;
  total : length l.self.stack.items + absent l.self.words l.self.marked ≤ length l.initial.self.stack.items + absent l.initial.self.words l.initial.self.marked;
}
