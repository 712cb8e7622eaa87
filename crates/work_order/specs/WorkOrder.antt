-- The bounds that the longest chain sets for many workers, and how they are printed.
use Rattle.std.specs.Prelude.{◌≡◌, ℕ, ◌+◌, ◌*◌, ◌/◌, ◌%◌, ◌≤◌, ◌==◌, max, min, if◌then◌else◌, List, ◌++◌, codes, decimal}
use Rattle.std.specs.Int.{div_ceil}

-- the largest speed-up of many workers over one, in hundredths: all words divided by those of the longest chain,
-- rounded down, and 1 if there is no word
abbrev pub speedup_of : ℕ → ℕ → ℕ
speedup_of words chain = if chain == 0 then 100 else words * 100 / chain

-- the least number of workers that can fill all words in the time of the longest chain
abbrev pub workers_of : ℕ → ℕ → ℕ
workers_of words chain = if chain == 0 then 1 else max 1 (div_ceil words chain)

-- this number of workers can fill all words in the time of the longest chain, and no fewer can
pub record IsLeastEnough (words chain workers : ℕ) : Type 0 where
  pub some : 1 ≤ workers
  pub enough : words ≤ workers * chain
  pub least : (fewer : ℕ) → 1 ≤ fewer → words ≤ fewer * chain → workers ≤ fewer

-- hundredths as a number with two decimals
abbrev pub with_decimals : ℕ → List ℕ
with_decimals hundredths =
    decimal (hundredths / 100) ++ (codes "." ++ (decimal (hundredths / 10 % 10) ++ decimal (hundredths % 10)))

-- the line with the figures, without its line feed; of the workers as many as a collection may have
abbrev pub order_text : ℕ → ℕ → List ℕ
order_text words chain =
    codes "chain " ++ (decimal chain ++ (codes " words " ++ (decimal words ++ (codes " speedup "
    ++ (with_decimals (speedup_of words chain) ++ (codes " workers " ++ decimal (min (workers_of words chain) 64)))))))
