-- The index of a table of moves.
use Rattle.std.specs.Prelude.{◌≡◌, ℕ, ◌<◌, ◌⊎◌, List, length, take, slice_index, slice_index_or, count_by}
use Rattle.scheduler.specs.MoveTable.{MoveTable, IsMoveTable, IsFirstPlace, region_count, has_source}
use Rattle.scheduler.specs.declared.moves.readers.Readers.{Readers}
use Rattle.scheduler.specs.declared.moves.readers.Readers.TheVariants.{Nobody, One, Two}

-- the number of these indices
abbrev pub number_of : Readers → ℕ
number_of Nobody = 0
number_of (One i) = 1
number_of (Two i j) = 2

-- it is one of these indices
abbrev pub Lists : Readers → ℕ → Type 0
Lists Nobody k = ⊥
Lists (One i) k = k ≡ i
Lists (Two i j) k = (k ≡ i) ⊎ (k ≡ j)

-- these indices and one more, if there are fewer than two
abbrev pub joined : Readers → ℕ → Readers
joined Nobody k = One k
joined (One i) k = Two i k
joined (Two i j) k = Two i j

-- the indices of those of the first n pairs that have this source
pub record AreReaders (ps : List (ℕ × ℕ)) (n s : ℕ) (readers : Readers) : Type 0 where
  pub number : number_of readers ≡ count_by (has_source s) (take n ps)
  pub inside : (k : ℕ) → Lists readers k → k < n
  pub source : (k : ℕ) (d : ℕ × ℕ) → Lists readers k → (slice_index_or ps k d).1 ≡ s
  pub all : (k : ℕ) (d : ℕ × ℕ) → k < n → (slice_index_or ps k d).1 ≡ s → Lists readers k

-- for each region, the index after the pairs with smaller destinations
pub record AreFirstPlaces (m : MoveTable) (first : List ℕ) : Type 0 where
  pub room : length first ≡ region_count m
  pub each : (d : ℕ) → d < region_count m → IsFirstPlace m.pairs d 0 (slice_index first d)

-- for each region, the indices of the pairs of which it is the source
pub record AreReaderPlaces (m : MoveTable) (readers : List Readers) : Type 0 where
  pub room : length readers ≡ region_count m
  pub each : (s : ℕ) → s < region_count m → AreReaders m.pairs (length m.pairs) s (slice_index_or readers s Nobody)

-- the invariant of a table with an index
pub record IsIndexed (m : MoveTable) (first : List ℕ) (readers : List Readers) : Type 0 where
  pub table : IsMoveTable m
  pub first_places : AreFirstPlaces m first
  pub reader_places : AreReaderPlaces m readers

-- the pair is at this index
pub record IsPlaceOf (ps : List (ℕ × ℕ)) (d s at : ℕ) : Type 0 where
  pub inside : at < length ps
  pub is : slice_index_or ps at (d, s) ≡ (d, s)
