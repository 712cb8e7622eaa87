-- The invariant of the cells of an image.
use Rattle.std.specs.Prelude.{◌≡◌, ℕ, ◌≤◌, List, [], ◌∷◌, drop, map, option_map}
use Rattle.std.specs.List.{range_with_len}
use Rattle.std.specs.Vec.{vec_capacity}
use Rattle.object_heap.specs.HeapImage.{HeapImage, IsValid, region_count, versioned_image_of}
use Rattle.heap_image.specs.declared.image.ImageParts.{ImageParts}
use Rattle.summary.specs.RegionData.{fill_count}
use Rattle.region_cells.specs.Blocks.{blocks_of}
use Rattle.region_cells.specs.Views.{ImageRegion}

-- the image that these places belong to; if there are none, that of these parts
abbrev pub image_in : List ImageRegion → ImageParts → HeapImage
image_in [] parts = versioned_image_of parts.version parts.region_log parts.allowance parts.regions.items parts.live.items (option_map (λ v. v.items) parts.roots)
image_in (place ∷ places) parts = place.image

module _ (image : HeapImage) where
  abbrev pub place_of : ℕ → ImageRegion
  place_of r = record { image = image; region = r }

  -- the places of the cells: one for each region to fill, in order
  abbrev pub places : List ImageRegion
  places = map place_of (range_with_len 0 (fill_count image))

  -- the words of the regions that stay as they are: those after the regions to fill
  abbrev pub other_blocks : List (List ℕ)
  other_blocks = drop (fill_count image) (blocks_of image)

  -- the parts of the image without the regions to fill, for which there is room
  pub record AreOtherParts (parts : ImageParts) : Type 0 where
    pub version : parts.version ≡ image.version
    pub region_log : parts.region_log ≡ image.region_log
    pub allowance : parts.allowance ≡ image.allowance
    pub live : parts.live.items ≡ image.live
    pub roots : option_map (λ v. v.items) parts.roots ≡ image.roots
    pub regions : parts.regions.items ≡ other_blocks
    pub room : region_count image ≤ vec_capacity parts.regions

  pub record AreCells (slots : List ImageRegion) (parts : ImageParts) : Type 0 where
    pub valid : IsValid image
    pub slots_are : slots ≡ places
    pub parts_are : AreOtherParts parts
