-- The results of parsing the parts of a schedule.
use Rattle.std.specs.Prelude.{◌≡◌, ◌≢◌, ℕ, ◌<◌, ◌^◌, Bool, not, ◌==◌, List, decimal, Option, MatchOption}
use Rattle.std.specs.List.{list_any}

-- the byte isn't in the list
abbrev pub is_without : ℕ → List ℕ → Bool
is_without end bytes = not (list_any (λ b. b == end) bytes)

-- the number whose text these bytes are, or none
abbrev pub ReadsNumber : List ℕ → Option ℕ → Type 0
ReadsNumber bytes result = MatchOption result ((n : ℕ) → n < 2 ^ 32 → bytes ≢ decimal n) (λ n. bytes ≡ decimal n)
