-- Slides of opaque objects.
use Rattle.std.specs.Prelude.{ℕ, List, [], map, slice_index_or, Option, MatchOption}
use Rattle.std.specs.List.{range_with_len}
use Rattle.object_heap.specs.Bits.{NoneFrom, IsFirstFrom}
use Rattle.object_heap.specs.HeapImage.{HeapImage, region_count}
use Rattle.mark_bitmap.specs.Marks.{is_begin}
use Rattle.fill.specs.SlidWords.{slid_block}

-- the words of all regions once the live words have slid, of regions with these words
abbrev pub slid_regions : HeapImage → List (List ℕ) → List (List ℕ)
slid_regions image blocks = map (slid_block image (λ r. slice_index_or blocks r [])) (range_with_len 0 (region_count image))

-- the first address from this one on at which an object of this image begins, if there is one
abbrev pub IsNextObject : HeapImage → ℕ → Option ℕ → Type 0
IsNextObject image from found = MatchOption found (NoneFrom (is_begin image) from) (IsFirstFrom (is_begin image) from)
