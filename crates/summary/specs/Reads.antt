-- The regions that are still to be read.
use Rattle.std.specs.Prelude.{◌≡◌, ℕ, ◌-◌, ◌+◌, ◌^◌, ◌≤◌, ◌<◌, Bool, ◌&&◌, nat_lt, List, filter, length, slice_index_or, None, false}
use Rattle.std.specs.List.{range_with_len}
use Rattle.object_heap.specs.HeapImage.{HeapImage, region_words, region_count, start_of}
use Rattle.summary.specs.WordMoves.{reads}
use Rattle.summary.specs.RegionData.{region_data}
use Rattle.summary.specs.declared.region_data.RegionData.{RegionData}

abbrev pub has_words : RegionData → Bool
has_words region = nat_lt 0 (region.partial + region.live)

-- some words of the region go below this end
abbrev pub goes_below : ℕ → RegionData → Bool
goes_below end region = has_words region && nat_lt region.destination end

abbrev pub no_data : RegionData
no_data = record { partial = 0; live = 0; destination = 0; count = 0; source = None }

-- the numbers of the regions from this one on that have words going below an end
abbrev pub sources_below : ℕ → ℕ → List RegionData → List ℕ
sources_below end from regions = filter (λ s. goes_below end (slice_index_or regions s no_data)) (range_with_len from (length regions - from))

-- No region before this one is read by region d, and from it on d reads the regions that have words going below the
-- end of d.
pub record BeginAt (image : HeapImage) (d first : ℕ) : Type 0 where
  pub inside : first ≤ region_count image
  pub before : (q : ℕ) → q < first → reads image d q ≡ false
  pub behind : (q : ℕ) → first ≤ q → q < region_count image → reads image d q ≡ goes_below (start_of image d + region_words image) (region_data image q)

-- there are few regions, and their destinations are in order
pub record AreInOrder (regions : List RegionData) : Type 0 where
  pub few : length regions < 2 ^ 32
  pub ascending : (i j : ℕ) → i ≤ j → j < length regions → (slice_index_or regions i no_data).destination ≤ (slice_index_or regions j no_data).destination
