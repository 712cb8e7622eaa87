-- What is needed to have regions back.
use Rattle.std.specs.Prelude.{◌≡◌, ◌≢◌, ◌⊎◌, ℕ, ◌+◌, ◌-◌, ◌<◌, ◌≤◌, ◌^◌, Bool, true, false, nat_lt, if◌then◌else◌, IsTrue, List, [], ◌∷◌, length, slice_index_or, Option, None}
use Rattle.read_shares.specs.Parts.{all_parts}
use Rattle.scheduler.specs.MoveTable.{MoveTable, IsMoveTable, region_count}
use Rattle.claim_board.specs.declared.regions.holding.Holding.{Holding}
use Rattle.claim_board.specs.Holdings.{IsSharedOut, IsPartOf, is_moved, is_original, is_share, origin_of, share_origin, parts_of, words_of, in_pair, in_region}
use Rattle.claim_board.specs.Places.{source_at}
use Rattle.claim_board.specs.Slots.{pair_at, all_slots}

-- a right to read this region, or nothing
abbrev pub MayJoin : Option Holding → Option Holding → Type 0
MayJoin region x = (x ≡ None) ⊎ ((is_share x ≡ true) × (origin_of x ≡ origin_of region))

-- The region has moved, or these are all its parts.
pub record AreAllParts (region one other : Option Holding) : Type 0 where
  pub original : is_original region ≡ true
  pub same : share_origin region ≡ origin_of region
  pub first : MayJoin region one
  pub second : MayJoin region other
  pub all : parts_of region + (parts_of one + parts_of other) ≡ all_parts

abbrev pub IsWhole : Option Holding → Option Holding → Option Holding → Type 0
IsWhole region one other = (is_moved region ≡ true) ⊎ AreAllParts region one other

-- the region is in its slot, and has moved, or all rights to read it are in theirs
abbrev pub IsComplete : MoveTable → ℕ → List (Option Holding) → Type 0
IsComplete m r values =
    (is_moved (in_region m values r) ≡ true)
    ⊎ (IsSharedOut m r (in_region m values r) × ((p : ℕ) → p < length m.pairs → source_at m p ≡ r → IsPartOf (in_region m values r) (in_pair m values p)))

-- The slots of this region and of its readers may change, and no other.
pub record ChangesOnly (m : MoveTable) (r : ℕ) (old new : List (Option Holding)) : Type 0 where
  pub size : length new ≡ length old
  pub regions : (q : ℕ) → q ≢ r → in_region m new q ≡ in_region m old q
  pub rights : (p : ℕ) → p < length m.pairs → source_at m p ≢ r → in_pair m new p ≡ in_pair m old p

-- The regions below n are united, with these words, and the others are in their slots as at first.
pub record AreUnited (m : MoveTable) (n : ℕ) (first values : List (Option Holding)) (words : List (List ℕ)) : Type 0 where
  pub size : length values ≡ all_slots m
  pub number : length words ≡ n
  pub words_are : (r : ℕ) → r < n → slice_index_or words r [] ≡ words_of (in_region m first r)
  pub left : (r : ℕ) → n ≤ r → r < region_count m → IsComplete m r values × (in_region m values r ≡ in_region m first r)

-- what is in the slots, without what was taken
abbrev pub left_in : List (Option Holding) → List Bool → List (Option Holding)
left_in [] bs = []
left_in (x ∷ xs) [] = None ∷ left_in xs []
left_in (x ∷ xs) (true ∷ bs) = x ∷ left_in xs bs
left_in (x ∷ xs) (false ∷ bs) = None ∷ left_in xs bs

-- the region to which the slot belongs: its own, or the one that is read by the right in it
abbrev pub region_of_slot : MoveTable → ℕ → ℕ
region_of_slot m k = if nat_lt k (length m.pairs) then (pair_at m k).1 else k - length m.pairs

-- The region's slots are emptied, and no others.
pub record Empties (m : MoveTable) (r : ℕ) (old new : ℕ → Bool) : Type 0 where
  pub gone : (k : ℕ) → k < all_slots m → region_of_slot m k ≡ r → new k ≡ false
  pub others : (k : ℕ) → region_of_slot m k ≢ r → new k ≡ old k

-- nothing was taken from the region's slots
abbrev pub AreLeft : MoveTable → ℕ → (ℕ → Bool) → Type 0
AreLeft m r is_left = (k : ℕ) → k < all_slots m → region_of_slot m k ≡ r → IsTrue (is_left k)

-- All regions are complete.
pub record AreComplete (m : MoveTable) (values : List (Option Holding)) : Type 0 where
  pub table : IsMoveTable m
  pub size : length values ≡ all_slots m
  pub small : all_slots m < 2 ^ 64
  pub each : (r : ℕ) → r < region_count m → IsComplete m r values

-- and nothing was taken from the slots
abbrev pub AreReady : MoveTable → List (Option Holding) → (ℕ → Bool) → Type 0
AreReady m values is_left = AreComplete m values × ((k : ℕ) → k < all_slots m → IsTrue (is_left k))

-- The slots of the regions below n are emptied, and no others.
pub record AreEmptied (m : MoveTable) (n : ℕ) (first now : ℕ → Bool) : Type 0 where
  pub gone : (k : ℕ) → k < all_slots m → region_of_slot m k < n → now k ≡ false
  pub others : (k : ℕ) → n ≤ region_of_slot m k → now k ≡ first k
