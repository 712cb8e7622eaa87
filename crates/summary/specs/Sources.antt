-- The sources of the regions, set one by one.
use Rattle.std.specs.Prelude.{◌≡◌, ℕ, ◌<◌, nat_lt, if◌then◌else◌, Option, Some, None}
use Rattle.object_heap.specs.HeapImage.{HeapImage, region_count}
use Rattle.summary.specs.RegionData.{region_data, source}
use Rattle.summary.specs.declared.region_data.RegionData.{RegionData}

-- a source, if it is one of the first s regions
abbrev pub if_below : Option ℕ → ℕ → Option ℕ
if_below None s = None
if_below (Some t) s = if nat_lt t s then Some t else None

module _ (image : HeapImage) where
  -- the data of a region, with its source if that is one of the first s regions
  abbrev pub region_so_far : ℕ → ℕ → RegionData
  region_so_far s d = record (region_data image d) { source = if_below (source image d) s }

-- a word of region s goes to the start of region d, and to the start of no other
pub record StartsOnly (image : HeapImage) (s d : ℕ) : Type 0 where
  pub inside : d < region_count image
  pub here : source image d ≡ Some s
  pub only : (k : ℕ) → source image k ≡ Some s → k ≡ d
