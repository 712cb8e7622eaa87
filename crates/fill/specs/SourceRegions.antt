-- The regions that have words for a region after the prefix.
use Rattle.std.specs.Prelude.{◌≡◌, ℕ, ◌<◌, ◌≤◌, true, false}
use Rattle.object_heap.specs.HeapImage.{HeapImage, region_count, start_of}
use Rattle.summary.specs.NewAddresses.{prefix_end}
use Rattle.summary.specs.WordMoves.{reads}

-- a region after the prefix
pub record IsAfterPrefix (image : HeapImage) (r : ℕ) : Type 0 where
  pub inside : r < region_count image
  pub after_prefix : prefix_end image ≤ start_of image r

-- s is the first region, from `from` on, that has words for region d; `from` comes after d
pub record IsNextOtherSource (image : HeapImage) (d from s : ℕ) : Type 0 where
  pub own : d < from
  pub ordered : from ≤ s
  pub inside : s < region_count image
  pub read : reads image d s ≡ true
  pub between : (t : ℕ) → from ≤ t → t < s → reads image d t ≡ false
