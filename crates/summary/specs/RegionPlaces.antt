-- What is known about the regions before their sources.
use Rattle.std.specs.Prelude.{◌≡◌, ℕ, ◌+◌, ◌<◌, ◌≤◌, IsTrue, List, length, map, slice_index, slice_index_or, false, None}
use Rattle.std.specs.List.{range_with_len}
use Rattle.object_heap.specs.HeapImage.{HeapImage, region_words, region_count, start_of}
use Rattle.mark_bitmap.specs.Marks.{is_begin}
use Rattle.summary.specs.NewAddresses.{prefix_end, new_top}
use Rattle.summary.specs.RegionData.{partial_words, own_words, region_data}
use Rattle.summary.specs.declared.region_data.RegionData.{RegionData}
use Rattle.summary.specs.declared.plan.region_counts.RegionCounts.{RegionCounts}
use Rattle.summary.specs.declared.plan.region_places.RegionPlaces.{RegionPlaces}

-- The own start of region r: the first address in it at which a live object begins, or its end if none does.
pub record IsOwnStart (image : HeapImage) (r a : ℕ) : Type 0 where
  pub behind : start_of image r ≤ a
  pub inside : a ≤ start_of image r + region_words image
  pub before : (k : ℕ) → start_of image r ≤ k → k < a → is_begin image k ≡ false
  pub begins : a < start_of image r + region_words image → IsTrue (is_begin image a)

-- these are the own starts of all regions
pub record AreOwnStarts (image : HeapImage) (starts : List ℕ) : Type 0 where
  pub number : length starts ≡ region_count image
  pub each : (r : ℕ) → r < region_count image → IsOwnStart image r (slice_index starts r)

module _ (image : HeapImage) where
  abbrev pub region_counts : ℕ → RegionCounts
  region_counts r = record { partial = partial_words image r; live = own_words image r }

  -- these are the counts of all regions
  pub record AreRegionCounts (counts : List RegionCounts) : Type 0 where
    pub number : length counts ≡ region_count image
    pub each : (r : ℕ) (d : RegionCounts) → r < region_count image → slice_index_or counts r d ≡ region_counts r

  -- the data of a region, without its source
  abbrev pub placed_region : ℕ → RegionData
  placed_region r = record (region_data image r) { source = None }

-- the data of all regions without their sources, the prefix end and the new top
pub record AreRegionPlaces (image : HeapImage) (places : RegionPlaces) : Type 0 where
  pub regions : places.regions.items ≡ map (placed_region image) (range_with_len 0 (region_count image))
  pub prefix : places.prefix_end ≡ prefix_end image
  pub top : places.new_top ≡ new_top image
