-- What decoding answers for bytes in memory.
use Rattle.std.specs.Prelude.{◌≡◌, ℕ, ◌⊎◌, List, None, Result, Ok, Err, IfOk, IfErr}
use Rattle.image_streams.specs.declared.fault.Fault.{Fault}
use Rattle.image_streams.specs.declared.fault.Fault.TheVariants.{Memory}
use Rattle.object_heap.specs.HeapImage.{HeapImage, IsValid}
use Rattle.heap_image.specs.Checks.{IsMemoryOr}
use Rattle.heap_image.specs.ImageText.{text, first_fault, first_some, layout_faults}

-- The image whose text these bytes are, or their first fault. Memory runs out only where the faults 1 to 5 don't hold.
pub record Decodes (bytes : List ℕ) (result : Result HeapImage Fault) : Type 0 where
  pub text : IfOk result (λ image. IsValid image × (bytes ≡ Rattle.heap_image.specs.ImageText.text image))
  -- the text of a valid image is rejected only if memory runs out
  pub only : (image : HeapImage) → IsValid image → bytes ≡ Rattle.heap_image.specs.ImageText.text image
      → (result ≡ Ok image) ⊎ (result ≡ Err Memory)
  pub fault : IfErr result (IsMemoryOr (first_fault bytes))
  pub memory : IfErr result (λ fault. fault ≡ Memory → first_some (layout_faults bytes) ≡ None)
