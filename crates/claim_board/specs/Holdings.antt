-- What is in the slots of a board that keeps regions.
use Rattle.std.specs.Prelude.{◌≡◌, ℕ, ◌+◌, ◌<◌, Bool, true, false, List, [], length, slice_index_or, slice_get, Option, Some, None}
use Rattle.read_shares.specs.Parts.{all_parts}
use Rattle.box_row.specs.declared.place.InRow.{InRow}
use Rattle.scheduler.specs.MoveTable.{MoveTable, region_count, readers_of}
use Rattle.claim_board.specs.declared.regions.holding.Holding.{Holding}
use Rattle.claim_board.specs.declared.regions.holding.Holding.TheVariants.{Share, Original, Moved}
use Rattle.claim_board.specs.Slots.{region_slot, all_slots}
use Rattle.claim_board.specs.Holds.{pair_slot}

abbrev pub is_share : Option Holding → Bool
is_share (Some (Share s)) = true
is_share _ = false

abbrev pub is_original : Option Holding → Bool
is_original (Some (Original d s)) = true
is_original _ = false

abbrev pub is_moved : Option Holding → Bool
is_moved (Some (Moved w)) = true
is_moved _ = false

-- from which sharing out of a region it comes
abbrev pub origin_of : Option Holding → ℕ
origin_of (Some (Share s)) = s.origin
origin_of (Some (Original d s)) = d.origin
origin_of _ = 0

-- from which the share of an original comes
abbrev pub share_origin : Option Holding → ℕ
share_origin (Some (Original d s)) = s.origin
share_origin _ = 0

-- of how many parts of a region it is
abbrev pub parts_of : Option Holding → ℕ
parts_of (Some (Share s)) = s.parts
parts_of (Some (Original d s)) = s.parts
parts_of _ = 0

-- the words of its region
abbrev pub words_of : Option Holding → List ℕ
words_of (Some (Share s)) = s.value
words_of (Some (Original d s)) = d.value
words_of (Some (Moved w)) = w.0
words_of None = []

-- the place in which its region lies
abbrev pub lies_in : Option Holding → Option InRow
lies_in (Some (Original d s)) = Some d.alloc
lies_in (Some (Moved w)) = Some w.1
lies_in _ = None

-- what is in the slot of a pair, and in that of a region
abbrev pub in_pair : MoveTable → List (Option Holding) → ℕ → Option Holding
in_pair m values p = slice_index_or values (pair_slot m p) None

abbrev pub in_region : MoveTable → List (Option Holding) → ℕ → Option Holding
in_region m values r = slice_index_or values (region_slot m r) None

-- the region is shared out, and its readers have a part each
pub record IsSharedOut (m : MoveTable) (r : ℕ) (x : Option Holding) : Type 0 where
  pub original : is_original x ≡ true
  pub same : share_origin x ≡ origin_of x
  pub parts : parts_of x + readers_of m r ≡ all_parts

-- one part of this region
pub record IsPartOf (region x : Option Holding) : Type 0 where
  pub share : is_share x ≡ true
  pub same : origin_of x ≡ origin_of region
  pub words : words_of x ≡ words_of region
  pub one : parts_of x ≡ 1

-- The slots have all regions, and for each pair a part of its source.
pub record AreRegions (m : MoveTable) (values : List (Option Holding)) : Type 0 where
  pub size : length values ≡ all_slots m
  pub regions : (r : ℕ) → r < region_count m → IsSharedOut m r (in_region m values r)
  pub rights : (p : ℕ) → p < length m.pairs → IsPartOf (in_region m values (slice_index_or m.pairs p (0, 0)).1) (in_pair m values p)

-- the region is in this place, whether it has moved or not
abbrev pub LieIn : MoveTable → (ℕ → InRow) → List (Option Holding) → Type 0
LieIn m spots values = (r : ℕ) → r < region_count m → lies_in (in_region m values r) ≡ Some (spots r)

-- each moved region is in this place
abbrev pub AreLaid : MoveTable → (ℕ → InRow) → List Holding → Type 0
AreLaid m spots moved = (r : ℕ) → r < region_count m → lies_in (slice_get moved r) ≡ Some (spots r)

-- a region that has moved, for each region
abbrev pub AreMoved : MoveTable → List Holding → Type 0
AreMoved m moved = (r : ℕ) → r < region_count m → is_moved (slice_get moved r) ≡ true
