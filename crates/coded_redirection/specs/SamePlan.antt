-- Images that differ in their words or in their objects alone.
use Rattle.std.specs.Prelude.{◌≡◌, All}
use Rattle.object_heap.specs.HeapImage.{HeapImage, size_at}

-- the words are the same, in the same layout
pub record HasSameWords (image other : HeapImage) : Type 0 where
  pub layout : other.layout ≡ image.layout
  pub words : other.words ≡ image.words

-- they list the same objects, of the same sizes
pub record HasSameObjects (image other : HeapImage) : Type 0 where
  pub live : other.live ≡ image.live
  pub sizes : All (λ a. size_at other a ≡ size_at image a) image.live

-- and have the same regions and the same allowance, so that objects slide alike
pub record HasSamePlan (image other : HeapImage) : Type 0 where
  pub objects : HasSameObjects image other
  pub region_log : other.region_log ≡ image.region_log
  pub allowance : other.allowance ≡ image.allowance
