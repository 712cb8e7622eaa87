-- Two tables of numbers compared.
use Rattle.std.specs.Prelude.{◌≡◌, ℕ, ◌<◌, ◌≢◌}

-- they agree at each of the first `count` indices
abbrev pub AreAlike : (ℕ → ℕ) → (ℕ → ℕ) → ℕ → Type 0
AreAlike wanted found count = (k : ℕ) → k < count → found k ≡ wanted k

-- i is the lowest of these indices at which they differ
pub record IsLeastDifference (wanted found : ℕ → ℕ) (count i : ℕ) : Type 0 where
  pub inside : i < count
  pub differs : found i ≢ wanted i
  pub least : AreAlike wanted found i

-- i is the highest of these indices at which they differ
pub record IsGreatestDifference (wanted found : ℕ → ℕ) (count i : ℕ) : Type 0 where
  pub inside : i < count
  pub differs : found i ≢ wanted i
  pub greatest : (k : ℕ) → i < k → k < count → found k ≡ wanted k
