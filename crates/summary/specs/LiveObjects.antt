-- The live objects of an image, by their indices in the live list.
use Rattle.std.specs.Prelude.{ℕ, ◌<◌, ◌≤◌, length, slice_index}
use Rattle.object_heap.specs.HeapImage.{HeapImage}
use Rattle.summary.specs.NewAddresses.{new_address}

-- the number of live objects
abbrev pub object_count : HeapImage → ℕ
object_count image = length image.live

-- the address of the i-th live object, from 0
abbrev pub object_at : HeapImage → ℕ → ℕ
object_at image i = slice_index image.live i

-- the first n live objects, and no others, have a new address below the limit
pub record ArePlacedBelow (image : HeapImage) (limit n : ℕ) : Type 0 where
  pub within : n ≤ object_count image
  pub below : (i : ℕ) → i < n → new_address image (object_at image i) < limit
  pub above : (i : ℕ) → n ≤ i → i < object_count image → limit ≤ new_address image (object_at image i)
