-- A block of words that is written from its start up.
use Rattle.std.specs.Prelude.{◌≡◌, ℕ, ◌+◌, ◌<◌, ◌≤◌, List, length, slice_index}

-- a block that begins at the address `start` has the words of f at its addresses
abbrev pub Shows : (ℕ → ℕ) → ℕ → List ℕ → Type 0
Shows f start words = (k : ℕ) → k < length words → slice_index words k ≡ f (start + k)

-- a block that begins at the address `start` has the words of f below p, and those of g from p up
pub record IsSplitAt (f g : ℕ → ℕ) (start : ℕ) (words : List ℕ) (p : ℕ) : Type 0 where
  pub below : (k : ℕ) → k < length words → start + k < p → slice_index words k ≡ f (start + k)
  pub above : (k : ℕ) → k < length words → p ≤ start + k → slice_index words k ≡ g (start + k)
