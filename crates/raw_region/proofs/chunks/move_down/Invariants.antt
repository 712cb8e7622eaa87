use Rattle.std.proofs.Common.{ℕ, ◌-◌, ◌≡◌, ◌≤◌, List, length}
use Rattle.raw_region.specs.Region.{with_words, part}
use Rattle.raw_region.proofs.chunks.move_down.Given as goal

-- of the n words of old, the first ones have moved
pub record HasMoved (old new : List ℕ) (from to n moved : ℕ) : Type 0 where
  pub within : moved ≤ n
  pub same_length : length new ≡ length old
  pub value : new ≡ with_words old to (part old from moved)

abbrev pub invariant-loop-moved : goal.invariant-loop-moved
invariant-loop-moved l = HasMoved l.initial.words l.words l.from l.to l.n l.moved

abbrev pub decreases-loop-moved : goal.decreases-loop-moved
decreases-loop-moved l = l.n - l.moved
