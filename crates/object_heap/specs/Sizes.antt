-- The sizes of live objects, in pieces.
use Rattle.std.specs.Prelude.{◌≡◌, List, [], ℕ, ◌*◌, ◌/◌, ◌%◌, ◌<◌, ◌≤◌, length, slice_index, slice_index_or}
use Rattle.object_heap.specs.HeapImage.{HeapImage, size_at}

-- these pieces of 64 have the sizes in words of the live objects, in their order
pub record AreSizes (image : HeapImage) (pieces : List (List ℕ)) : Type 0 where
  pub room : length image.live ≤ 64 * length pieces
  pub each : (i : ℕ) → i < length image.live → slice_index (slice_index_or pieces (i / 64) []) (i % 64) ≡ size_at image (slice_index image.live i)

-- these numbers begin with the sizes of the objects at some addresses, in their order
abbrev pub AreSizesOf : HeapImage → List ℕ → List ℕ → Type 0
AreSizesOf image objects sizes = (j : ℕ) → j < length objects → slice_index sizes j ≡ size_at image (slice_index objects j)
