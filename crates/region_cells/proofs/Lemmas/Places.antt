-- The places of cells, and the regions after them.
use Rattle.std.proofs.Common.{◌≡◌, ℕ, ◌+◌, ◌-◌, ◌<◌, List, length, get_or, ◌∙◌, arith}
use Rattle.std.proofs.lemmas.List.{length-drop, get_or-drop}
use Rattle.std.proofs.lemmas.List.FromFn.{length-map-range_with_len, get_or-map-range_with_len}
use Rattle.object_heap.specs.HeapImage.{HeapImage, region_count, block_of}
use Rattle.summary.specs.RegionData.{fill_count}
use Rattle.region_cells.specs.Blocks.{blocks_of}
use Rattle.region_cells.specs.Cells.{place_of, places, other_blocks}
use Rattle.region_cells.specs.Views.{ImageRegion}

module _ (image : HeapImage) where
  pub length-places : length (places image) ≡ fill_count image
  length-places = length-map-range_with_len (place_of image) 0 (fill_count image)

  pub place-at : (r : ℕ) (d : ImageRegion) → r < fill_count image → get_or (places image) r d ≡ place_of image r
  place-at r d inside = get_or-map-range_with_len (place_of image) 0 (fill_count image) r r d inside (omega arith)

  pub length-others : length (other_blocks image) ≡ region_count image - fill_count image
  length-others =
      omega (arith, length-drop (fill_count image) (blocks_of image), length-map-range_with_len (block_of image) 0 (region_count image))

  -- a region that is not to be filled, by its place in the list of the others
  pub other-at : (i r : ℕ) (d : List ℕ) → fill_count image + i ≡ r → r < region_count image → get_or (other_blocks image) i d ≡ block_of image r
  other-at i r d place inside =
      get_or-drop (fill_count image) (blocks_of image) i d
      ∙ get_or-map-range_with_len (block_of image) 0 (region_count image) (fill_count image + i) r d (omega (arith, place, inside)) (omega (arith, place))
