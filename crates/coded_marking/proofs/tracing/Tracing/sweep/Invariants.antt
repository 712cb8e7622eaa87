use Rattle.std.proofs.Common.{◌≡◌, ◌⊎◌, ◌*◌, ◌<◌, ℕ, Bool, true, List, []}
use Rattle.coded_marking.specs.Tracing.{IsSteady, IsUnderway, KeepsFollowed, absent}
use Rattle.coded_marking.proofs.tracing.Tracing.sweep.Given as goal

-- what was marked in the first words of bits is followed
abbrev pub invariant-loop-i : goal.invariant-loop-i
invariant-loop-i l = record {
  steady : IsSteady l.self;
  words : l.self.words ≡ l.initial.self.words;
  goes_on : (roots : List ℕ) (before : ℕ → Bool) → IsUnderway l.heap roots before 0 [] l.initial.self → IsUnderway l.heap roots before (64 * l.i) [] l.self;
  keeps : KeepsFollowed l.initial.self l.self;
  gets_on : (l.self.complete ≡ true) ⊎ (absent l.self.words l.self.followed < absent l.initial.self.words l.initial.self.followed);
  empty : l.self.stack.items ≡ [];
}
