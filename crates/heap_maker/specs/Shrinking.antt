-- A heap that was made smaller.
use Rattle.std.specs.Prelude.{◌≡◌, ℕ, ◌≤◌}
use Rattle.object_heap.specs.HeapImage.{HeapImage, IsValid}
use Rattle.heap_maker.specs.HeapSize.{IsBelow, size_of_heap}
use Rattle.heap_maker.specs.declared.shrinking.Smaller.{Smaller}

-- a valid heap of the same version, in which no count is above that of the other, and one is below
pub record IsSmallerHeap (large small : HeapImage) : Type 0 where
  pub valid : IsValid small
  pub version : small.version ≡ large.version
  pub below : IsBelow (size_of_heap small) (size_of_heap large)

-- such a heap, which this step or a later one has made, with its counts
pub record IsSmallerFrom (large : HeapImage) (from : ℕ) (made : Smaller) : Type 0 where
  pub smaller : IsSmallerHeap large made.image
  pub step : from ≤ made.step
  pub size : made.size ≡ size_of_heap made.image
