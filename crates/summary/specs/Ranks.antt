-- How many bits are set before each word of a list.
use Rattle.std.specs.Prelude.{ℕ, ◌+◌, ◌/◌, ◌%◌, ◌<◌, ◌^◌, List, length, map, sum_by, take, slice_index}
use Rattle.std.specs.List.{range_with_len}
use Rattle.std.specs.Int.RustNames.{count_ones}

-- the number of bits set in the first i words of 64 bits
abbrev pub ones_before : List ℕ → ℕ → ℕ
ones_before words i = sum_by (λ word. count_ones (word % 2 ^ 64)) (take i words)

-- the same, counted on from a first number
abbrev pub ones_from : ℕ → List ℕ → ℕ → ℕ
ones_from first words i = first + ones_before words i

-- the rank of word i, from those of the first words of blocks of 1,024 and the steps above these
abbrev pub rank_of : List ℕ → List ℕ → ℕ → ℕ
rank_of starts steps i = slice_index starts (i / 1024) + slice_index steps i

abbrev pub ranks_of : List ℕ → List ℕ → List ℕ
ranks_of starts steps = map (rank_of starts steps) (range_with_len 0 (length steps))

-- each word's block has a first rank, and each rank fits 64 bits
pub record AreRanks (starts steps : List ℕ) : Type 0 where
  pub covered : (i : ℕ) → i < length steps → i / 1024 < length starts
  pub fit : (i : ℕ) → i < length steps → rank_of starts steps i < 2 ^ 64
