use Rattle.std.proofs.Common.{◌≡◌, ◌⊎◌, ◌+◌, ℕ, [], true, length}
use Rattle.std.specs.Prelude.{Contains}
use Rattle.object_heap.specs.Bits.{has}
use Rattle.coded_marking.specs.Tracing.{IsSteady, GoesOn, KeepsFollowed, absent}
use Rattle.coded_marking.proofs.tracing.Tracing.drain.Given as goal

abbrev pub invariant-loop-batch : goal.invariant-loop-batch
invariant-loop-batch l = record {
  steady : IsSteady l.self;
  words : l.self.words ≡ l.initial.self.words;
  goes_on : GoesOn l.heap l.initial.self l.self;
  keeps : KeepsFollowed l.initial.self l.self;
  emptied : (a : ℕ) → Contains l.initial.self.stack.items a → (has l.self.followed a ≡ true) ⊎ Contains l.self.stack.items a;
  idle : l.initial.self.stack.items ≡ [] → (l.self.stack.items ≡ []) × (l.self.complete ≡ l.initial.self.complete);
}

-- a turn takes addresses from the stack, and each that is put there is marked then
abbrev pub decreases-loop-batch : goal.decreases-loop-batch
decreases-loop-batch l = length l.self.stack.items + absent l.self.words l.self.marked
