use Rattle.std.specs.Prelude.{◌≡◌, ℕ, ◌<◌, ◌≤◌, Bool, true, false, ◌==◌, ◌&&◌, ◌||◌, nat_lt, IsTrue, List, length, slice_index_or, All, AllPairs, count_by, filter, Option, MatchOption}
use Rattle.std.specs.List.{list_any}

-- The moves between regions. Words that a region keeps, or slides down within itself, make no pair.
pub record MoveTable : Type 0 where
  -- for each region, whether it is to be filled
  pub fill : List Bool
  -- (destination, source): some word goes to the destination from the source, which is another region
  pub pairs : List (ℕ × ℕ)

abbrev pub table_of : List Bool → List (ℕ × ℕ) → MoveTable
table_of fill pairs = record { fill = fill; pairs = pairs }

abbrev pub region_count : MoveTable → ℕ
region_count m = length m.fill

-- the region is to be filled
abbrev pub to_fill : MoveTable → ℕ → Bool
to_fill m r = slice_index_or m.fill r false

-- it is this pair
abbrev pub is_pair : ℕ → ℕ → ℕ × ℕ → Bool
is_pair d s pair = d == pair.0 && s == pair.1

-- the region d takes words from the region s
abbrev pub reads : MoveTable → ℕ → ℕ → Bool
reads m d s = list_any (is_pair d s) m.pairs

-- the pair's words come from s
abbrev pub has_source : ℕ → ℕ × ℕ → Bool
has_source s pair = s == pair.1

-- the number of regions that take words from s
abbrev pub readers_of : MoveTable → ℕ → ℕ
readers_of m s = count_by (has_source s) m.pairs

-- one pair comes before another, by destination and then by source
abbrev pub is_before : ℕ × ℕ → ℕ × ℕ → Bool
is_before p q = nat_lt p.0 q.0 || (p.0 == q.0 && nat_lt p.1 q.1)

-- strictly ascending
abbrev pub IsAscending : List (ℕ × ℕ) → Type 0
IsAscending ps = AllPairs (λ p q. IsTrue (is_before p q)) ps

-- the index of the first pair that isn't before (d, s), or the number of pairs if all are before
pub record IsFirstPlace (ps : List (ℕ × ℕ)) (d s at : ℕ) : Type 0 where
  pub inside : at ≤ length ps
  pub before : (k : ℕ) (e : ℕ × ℕ) → k < at → is_before (slice_index_or ps k e) (d, s) ≡ true
  pub after : (k : ℕ) (e : ℕ × ℕ) → at ≤ k → k < length ps → is_before (slice_index_or ps k e) (d, s) ≡ false

-- words slide down, into a region that is to be filled, from a region in range
abbrev pub Slides : List Bool → ℕ × ℕ → Type 0
Slides fill pair = (pair.0 < pair.1) × (pair.1 < length fill) × IsTrue (slice_index_or fill pair.0 false)

-- 1 to 1,048,576 regions, strictly ascending pairs that slide, and no source with more than two readers
pub record IsMoveTable (m : MoveTable) : Type 0 where
  pub some : 1 ≤ region_count m
  pub few : region_count m ≤ 1048576
  pub ascending : IsAscending m.pairs
  pub slide : All (Slides m.fill) m.pairs
  pub two : (s : ℕ) → readers_of m s ≤ 2

-- the first source of d at or after this region, or none if there is no other
abbrev pub IsNextSource : MoveTable → ℕ → ℕ → Option ℕ → Type 0
IsNextSource m d from next =
    MatchOption next
    ((s : ℕ) → from ≤ s → reads m d s ≡ false)
    (λ s. (from ≤ s) × IsTrue (reads m d s) × ((t : ℕ) → from ≤ t → t < s → reads m d t ≡ false))

-- the pairs of smaller destinations, and those of d with smaller sources
abbrev pub pairs_before : MoveTable → ℕ → ℕ → List (ℕ × ℕ)
pairs_before m d s = filter (λ pair. is_before pair (d, s)) m.pairs
