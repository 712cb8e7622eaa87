-- The words of the regions, and of a region once it has moved.
use Rattle.std.specs.Prelude.{ℕ, List, map, Bool, if◌then◌else◌}
use Rattle.std.specs.List.{range_with_len}
use Rattle.object_heap.specs.HeapImage.{HeapImage, region_count, block_of}
use Rattle.summary.specs.Compaction.{moved_word}
use Rattle.summary.specs.RegionData.{region_addresses}
use Rattle.region_cells.specs.Views.{ImageRegion}

-- the words of all regions, in order
abbrev pub blocks_of : HeapImage → List (List ℕ)
blocks_of image = map (block_of image) (range_with_len 0 (region_count image))

-- The moved words below the new top, where deferred objects still have their old references, and the old words from the
-- new top up.
abbrev pub moved_block : HeapImage → ℕ → List ℕ
moved_block image r = map (moved_word image) (region_addresses image r)

-- the words of a region, moved or original
abbrev pub final_block : Bool → ImageRegion → List ℕ
final_block has_moved place = if has_moved then moved_block place.image place.region else block_of place.image place.region
