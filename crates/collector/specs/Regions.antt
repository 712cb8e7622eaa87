-- An image whose regions are elsewhere.
use Rattle.std.specs.Prelude.{◌≡◌, map, option_map}
use Rattle.std.specs.List.{range_with_len}
use Rattle.object_heap.specs.HeapImage.{HeapImage, AreBlocks, region_count, block_of, versioned_image_of}
use Rattle.heap_image.specs.declared.image.ImageParts.{ImageParts}

-- The parts of the image but its regions. With the image's blocks they are the image again.
pub record IsWithoutRegions (image : HeapImage) (parts : ImageParts) : Type 0 where
  pub whole : image ≡ versioned_image_of parts.version parts.region_log parts.allowance (map (block_of image) (range_with_len 0 (region_count image))) parts.live.items (option_map (λ v. v.items) parts.roots)
  pub blocks : AreBlocks parts.region_log (map (block_of image) (range_with_len 0 (region_count image)))
