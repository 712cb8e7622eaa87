-- The image that cells belong to.
use Rattle.std.proofs.Common.{◌≡◌, ℕ, zero, suc, drop, refl, sym, ap, ◌∙◌}
use Rattle.std.specs.Prelude.{◌≤◌, List, map, option_map}
use Rattle.std.specs.List.{range_with_len}
use Rattle.std.specs.Vec.{vec_capacity}
use Rattle.object_heap.specs.HeapImage.{HeapImage, IsValid, region_count, versioned_image_of}
use Rattle.heap_image.specs.declared.image.ImageParts.{ImageParts}
use Rattle.summary.specs.RegionData.{fill_count}
use Rattle.region_cells.specs.Blocks.{blocks_of}
use Rattle.region_cells.specs.Cells.{image_in, place_of, places, other_blocks, AreOtherParts}
use Rattle.region_cells.specs.Views.{ImageRegion}
use Rattle.region_cells.proofs.Lemmas.Whole.{whole_again}

-- the parts of an image are its other parts once the regions to fill were taken out of these blocks
pub other_parts : (image : HeapImage) (parts : ImageParts) (blocks : List (List ℕ))
    → image ≡ versioned_image_of parts.version parts.region_log parts.allowance blocks parts.live.items (option_map (λ v. v.items) parts.roots)
    → parts.regions.items ≡ other_blocks image → region_count image ≤ vec_capacity parts.regions → AreOtherParts image parts
other_parts image parts blocks whole regions room =
    record {
      version = ap (λ i. i.version) (sym whole);
      region_log = ap (λ i. i.region_log) (sym whole);
      allowance = ap (λ i. i.allowance) (sym whole);
      live = ap (λ i. i.live) (sym whole);
      roots = ap (λ i. i.roots) (sym whole);
      regions = regions;
      room = room;
    }

module _ (image : HeapImage) (valid : IsValid image) where
  -- the image again, of its other parts and all its blocks
  pub image_again : (parts : ImageParts) (blocks : List (List ℕ)) → AreOtherParts image parts → blocks ≡ blocks_of image
      → versioned_image_of parts.version parts.region_log parts.allowance blocks parts.live.items (option_map (λ v. v.items) parts.roots) ≡ image
  image_again parts blocks others are =
      whole_again image valid parts.version parts.region_log parts.allowance blocks parts.live.items (option_map (λ v. v.items) parts.roots)
      others.version others.region_log others.allowance are others.live others.roots

  -- by the number of the cells
  counted : (n : ℕ) (slots : List ImageRegion) (parts : ImageParts) → n ≡ fill_count image → slots ≡ map (place_of image) (range_with_len 0 n)
      → AreOtherParts image parts → image_in slots parts ≡ image
  counted zero slots parts none are others =
      ap (λ xs. image_in xs parts) are
      ∙ image_again parts parts.regions.items others (others.regions ∙ ap (λ n. drop n (blocks_of image)) (sym none))
  counted (suc n) slots parts some are others = ap (λ xs. image_in xs parts) are

  -- the cells of a valid image, with the other parts, determine the image
  pub image_in-cells : (slots : List ImageRegion) (parts : ImageParts) → slots ≡ places image → AreOtherParts image parts → image_in slots parts ≡ image
  image_in-cells slots parts = counted (fill_count image) slots parts refl
