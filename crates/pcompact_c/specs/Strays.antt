-- References that a host keeps outside of its heap.
use Rattle.std.specs.Prelude.{◌≡◌, ◌⊎◌, ℕ, ◌<◌, List, length, slice_index, IsTrue, false, Some}
use Rattle.image_streams.specs.declared.fault.Fault.{Fault}
use Rattle.image_streams.specs.declared.fault.Fault.TheVariants.{Memory, Root}
use Rattle.object_heap.specs.HeapImage.{HeapImage, IsValid, is_null_or_live}
use Rattle.heap_image.specs.ImageText.{text, first_fault}

-- i is the least index of a reference that is neither null nor to a live object
pub record IsFirstStray (image : HeapImage) (references : List ℕ) (i : ℕ) : Type 0 where
  pub inside : i < length references
  pub stray : is_null_or_live image (slice_index references i) ≡ false
  pub least : (k : ℕ) → k < i → IsTrue (is_null_or_live image (slice_index references k))

-- the bytes are the text of an image of which some reference is neither null nor to a live object, and the fault names the first
pub record IsOfStray (bytes references : List ℕ) (fault : Fault) : Type 0 where
  pub image : HeapImage
  pub valid : IsValid image
  pub bytes_are : bytes ≡ text image
  pub index : ℕ
  pub first : IsFirstStray image references index
  pub named : fault ≡ Root index

-- memory ran out, it is the first fault of the bytes of the heap's image, or it is that of the first stray reference
abbrev pub IsWhyNotRedirected : List ℕ → List ℕ → Fault → Type 0
IsWhyNotRedirected bytes references fault = (fault ≡ Memory) ⊎ ((first_fault bytes ≡ Some fault) ⊎ IsOfStray bytes references fault)
