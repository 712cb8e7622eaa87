-- The differences of two tables of numbers: how many there are, the first ten, and the last.
use Rattle.std.specs.Prelude.{◌≡◌, ℕ, ◌≤◌, not, ◌==◌, List, Option, MatchOption, length, take, filter, map}
use Rattle.std.specs.List.{range_with_len}
use Rattle.verification.specs.Difference.{AreAlike, IsGreatestDifference}
use Rattle.verification.specs.declared.difference_tally.OtherWord.{OtherWord}

module _ (wanted found : ℕ → ℕ) where
  -- the indices below `limit` at which they differ, ascending
  abbrev pub differences : ℕ → List ℕ
  differences limit = filter (λ p. not (found p == wanted p)) (range_with_len 0 limit)

  -- the difference at an index
  abbrev pub difference_at : ℕ → OtherWord
  difference_at p = record { address = p; expected = wanted p; found = found p }

  -- there are `count` differences below the limit, and these are the first ten of them, and the last
  pub record IsTally (limit count : ℕ) (first : List OtherWord) (last : Option ℕ) : Type 0 where
    pub few : count ≤ limit
    pub counted : count ≡ length (differences limit)
    pub listed : first ≡ map difference_at (take 10 (differences limit))
    pub ended : MatchOption last (AreAlike wanted found limit) (IsGreatestDifference wanted found limit)
