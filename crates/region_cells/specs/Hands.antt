-- What a reader and a writer hold.
use Rattle.std.specs.Prelude.{◌≡◌, ℕ, ◌<◌, List, length, Some}
use Rattle.object_heap.specs.HeapImage.{HeapImage, IsValid, region_words, region_count, block_of}
use Rattle.region_cells.specs.declared.kept.Kept.TheVariants.{Original}
use Rattle.region_cells.specs.declared.source.Hold.{Hold}
use Rattle.region_cells.specs.declared.source.Hold.TheVariants.{Cell, Plain}
use Rattle.region_cells.specs.Views.{ImageRegion}

-- the original words of a region: in its cell, by a claim to read, or where no one writes them
abbrev pub HoldsBlock : List ℕ → Hold → Type 0
HoldsBlock block (Cell claim) = (claim.right ≡ 1) × (claim.value ≡ Some (Original block))
HoldsBlock block (Plain region) = region.now ≡ block

-- the original region to read
pub record IsReading (image : HeapImage) (source : ℕ) (hold : Hold) : Type 0 where
  pub valid : IsValid image
  pub inside : source < region_count image
  pub holds : HoldsBlock (block_of image source) hold

-- a claim to write, and the words of a region
pub record IsWriting (image : HeapImage) (place : ImageRegion) (right region : ℕ) (words : List ℕ) : Type 0 where
  pub valid : IsValid image
  pub inside : region < region_count image
  pub place_is : place ≡ record { image = image; region = region }
  pub writes : right ≡ 2
  pub whole : length words ≡ region_words image
