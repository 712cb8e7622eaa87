-- What a collection leaves beside the words, and why there is none.
use Rattle.std.specs.Prelude.{◌≡◌, ◌⊎◌, ℕ, List, Some}
use Rattle.image_streams.specs.declared.fault.Fault.{Fault}
use Rattle.image_streams.specs.declared.fault.Fault.TheVariants.{Memory}
use Rattle.object_heap.specs.HeapImage.{HeapImage}
use Rattle.object_heap.specs.declared.version.Version.{Version}
use Rattle.object_heap.specs.declared.version.Version.TheVariants.{One, Two, Three}
use Rattle.heap_image.specs.ImageText.{first_fault}

-- the live addresses of an image of version 1, otherwise its roots
abbrev pub IsTailOf : Version → HeapImage → List ℕ → Type 0
IsTailOf One image tail = tail ≡ image.live
IsTailOf Two image tail = image.roots ≡ Some tail
IsTailOf Three image tail = image.roots ≡ Some tail

-- memory ran out, or it is the first fault of the bytes of the image
abbrev pub IsWhyKept : List ℕ → Fault → Type 0
IsWhyKept bytes fault = (fault ≡ Memory) ⊎ (first_fault bytes ≡ Some fault)
