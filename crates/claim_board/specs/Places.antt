-- Where the pairs of a region are in a table of moves.
use Rattle.std.specs.Prelude.{◌≡◌, ◌≢◌, ◌==◌, ℕ, ◌+◌, ◌<◌, ◌≤◌, List, cond, nat_lt, length, slice_index, slice_index_or, take, count_by, if◌then◌else◌}
use Rattle.scheduler.specs.MoveTable.{MoveTable, IsFirstPlace, region_count, readers_of, has_source}
use Rattle.claim_board.specs.declared.regions.places.Places.{Places}

abbrev pub source_at : MoveTable → ℕ → ℕ
source_at m p = (slice_index_or m.pairs p (0, 0)).1

-- 1 if it is the index of a pair
abbrev pub counted : MoveTable → ℕ → ℕ
counted m p = cond (nat_lt p (length m.pairs)) 1 0

-- The indices of the pairs with this source, at most two, ascending; the number of pairs stands for none.
pub record AreReaders (m : MoveTable) (s : ℕ) (two : ℕ × ℕ) : Type 0 where
  pub first_inside : two.0 ≤ length m.pairs
  pub second_inside : two.1 ≤ length m.pairs
  pub ascending : two.1 < length m.pairs → two.0 < two.1
  pub first : two.0 < length m.pairs → source_at m two.0 ≡ s
  pub second : two.1 < length m.pairs → source_at m two.1 ≡ s
  pub others : (p : ℕ) → p < length m.pairs → p ≢ two.0 → p ≢ two.1 → source_at m p ≢ s
  pub number : readers_of m s ≡ counted m two.0 + counted m two.1

pub record ArePlaces (m : MoveTable) (places : Places) : Type 0 where
  pub pairs : places.pairs ≡ length m.pairs
  pub first_all : length places.first.items ≡ region_count m
  pub first_is : (r : ℕ) → r < region_count m → IsFirstPlace m.pairs r 0 (slice_index places.first.items r)
  pub readers_all : length places.readers.items ≡ region_count m
  pub readers_are : (s : ℕ) → s < region_count m → AreReaders m s (slice_index_or places.readers.items s (0, 0))

-- the indices with one more
abbrev pub with_reader : ℕ → ℕ × ℕ → ℕ → ℕ × ℕ
with_reader pairs two place = if two.0 == pairs then (place, two.1) else (two.0, place)

-- The same of the first n pairs.
pub record AreReadersIn (m : MoveTable) (n s : ℕ) (two : ℕ × ℕ) : Type 0 where
  pub first_inside : two.0 ≤ length m.pairs
  pub second_inside : two.1 ≤ length m.pairs
  pub below : (two.0 < length m.pairs → two.0 < n) × (two.1 < length m.pairs → two.1 < n)
  pub ascending : two.1 < length m.pairs → two.0 < two.1
  pub first : two.0 < length m.pairs → source_at m two.0 ≡ s
  pub second : two.1 < length m.pairs → source_at m two.1 ≡ s
  pub others : (p : ℕ) → p < n → p ≢ two.0 → p ≢ two.1 → source_at m p ≢ s
  pub number : count_by (has_source s) (take n m.pairs) ≡ counted m two.0 + counted m two.1

pub record AreAllReadersIn (m : MoveTable) (n : ℕ) (readers : List (ℕ × ℕ)) : Type 0 where
  pub room : length readers ≡ region_count m
  pub each : (s : ℕ) → s < region_count m → AreReadersIn m n s (slice_index_or readers s (0, 0))
