-- What a plan keeps about an image, and the regions that a region reads.
use Rattle.std.specs.Prelude.{◌≡◌, ℕ, ◌+◌, ◌-◌, List, map, filter, Option, Some, None}
use Rattle.std.specs.List.{range_with_len}
use Rattle.object_heap.specs.HeapImage.{HeapImage, IsValid, region_count, start_of}
use Rattle.summary.specs.NewAddresses.{prefix_end, new_top}
use Rattle.summary.specs.WordMoves.{reads}
use Rattle.summary.specs.RegionData.{region_data, deferred}
use Rattle.summary.specs.declared.region_data.RegionData.{RegionData}

module _ (image : HeapImage) where
  -- the regions that region d reads, ascending
  abbrev pub sources : ℕ → List ℕ
  sources d = filter (reads image d) (range_with_len 0 (region_count image))

  -- those at or after region `from`
  abbrev pub sources_from : ℕ → ℕ → List ℕ
  sources_from d from = filter (reads image d) (range_with_len from (region_count image - from))

  -- the data of all regions
  abbrev pub AreRegions : List RegionData → Type 0
  AreRegions regions = regions ≡ map (region_data image) (range_with_len 0 (region_count image))

  -- the place of an address in a region, counted from 1; 0 for none
  abbrev pub place_in : ℕ → Option ℕ → ℕ
  place_in d None = 0
  place_in d (Some a) = a - start_of image d + 1

  -- for each region the place in it where the new words of a deferred object begin
  abbrev pub AreDeferred : List ℕ → Type 0
  AreDeferred places = places ≡ map (λ d. place_in d (deferred image d)) (range_with_len 0 (region_count image))

-- what the table of an image's regions keeps
pub record IsTable (image : HeapImage) (log prefix top : ℕ) (regions : List RegionData) : Type 0 where
  pub valid : IsValid image
  pub region_log : log ≡ image.region_log
  pub prefix_is : prefix ≡ prefix_end image
  pub top_is : top ≡ new_top image
  pub regions_are : AreRegions image regions

-- what a plan keeps besides the table of this image; its redirections are of the same image
pub record IsPlan (image redirections : HeapImage) (places : List ℕ) : Type 0 where
  pub same : redirections ≡ image
  pub deferred_are : AreDeferred image places
