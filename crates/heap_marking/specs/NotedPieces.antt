-- The slots of pieces of live objects.
use Rattle.std.specs.Prelude.{◌≡◌, ◌+◌, ◌/◌, ℕ, List, All, length}
use Rattle.object_heap.specs.HeapImage.{HeapImage}

-- as many slots of this heap as its live objects have pieces of 64
pub record ArePiecesOf (heap : HeapImage) (n : ℕ) (slots : List HeapImage) : Type 0 where
  pub objects : n ≡ length heap.live
  pub count : length slots ≡ (length heap.live + 63) / 64
  pub same : All (λ slot. slot ≡ heap) slots
