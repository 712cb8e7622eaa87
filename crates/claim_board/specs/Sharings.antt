-- How a region is shared out into the slots.
use Rattle.std.specs.Prelude.{◌≡◌, ◌≢◌, ℕ, suc, ◌-◌, ◌<◌, ◌≤◌, List, length, nat_lt, slice_set, if◌then◌else◌, Option, Some}
use Rattle.box_row.specs.declared.place.InRow.{InRow}
use Rattle.scheduler.specs.MoveTable.{MoveTable, region_count}
use Rattle.claim_board.specs.declared.regions.holding.Holding.{Holding}
use Rattle.claim_board.specs.Holdings.{IsSharedOut, IsPartOf, in_pair, in_region, lies_in, words_of}
use Rattle.claim_board.specs.Places.{source_at}

-- the values with this one in the slot of a pair, if it is the index of one
abbrev pub with_right : ℕ → List (Option Holding) → ℕ → Option Holding → List (Option Holding)
with_right pairs values p x = if nat_lt p pairs then slice_set values (pairs - suc p) x else values

-- The region with these words and in this place is in its slot, and each reader has its part. No other slot changes.
pub record SharesOut (m : MoveTable) (r : ℕ) (words : List ℕ) (spot : InRow) (old new : List (Option Holding)) : Type 0 where
  pub size : length new ≡ length old
  pub region : IsSharedOut m r (in_region m new r)
  pub words_are : words_of (in_region m new r) ≡ words
  pub lies : lies_in (in_region m new r) ≡ Some spot
  pub rights : (p : ℕ) → p < length m.pairs → source_at m p ≡ r → IsPartOf (in_region m new r) (in_pair m new p)
  pub other_regions : (q : ℕ) → q ≢ r → in_region m new q ≡ in_region m old q
  pub other_rights : (p : ℕ) → p < length m.pairs → source_at m p ≢ r → in_pair m new p ≡ in_pair m old p

-- the same of all regions from r on, whose words and places these are
pub record AreSharedFrom (m : MoveTable) (r : ℕ) (words : ℕ → List ℕ) (spots : ℕ → InRow) (values : List (Option Holding)) : Type 0 where
  pub regions : (q : ℕ) → r ≤ q → q < region_count m → IsSharedOut m q (in_region m values q) × (words_of (in_region m values q) ≡ words q) × (lies_in (in_region m values q) ≡ Some (spots q))
  pub rights : (p : ℕ) → p < length m.pairs → r ≤ source_at m p → IsPartOf (in_region m values (source_at m p)) (in_pair m values p)
