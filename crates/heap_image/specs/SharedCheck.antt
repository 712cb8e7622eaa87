-- A heap whose live objects are being checked.
use Rattle.std.specs.Prelude.{◌≡◌, ℕ, List, [], Option}
use Rattle.object_heap.specs.HeapImage.{HeapImage, AreBlocks, image_of}
use Rattle.object_heap.specs.declared.version.Version.{Version}
use Rattle.heap_marking.specs.Soundness.{AreReferencesOrWellFormed}
use Rattle.heap_image.specs.Checks.{AreOfTail}
use Rattle.heap_image.specs.ImageText.{listed_text, from_tail}
use Rattle.heap_image.specs.Reading.{HasFittingNumbers}
use Rattle.heap_image.specs.declared.check.unchecked.Found.{Found}
use Rattle.heap_image.specs.declared.from_regions.UncheckedParts.{UncheckedParts}

-- what an image is to have: its words, a list for each region, and the live addresses or roots after them
pub record UncheckedHeap : Type 0 where
  pub version : Version
  pub region_log : ℕ
  pub allowance : ℕ
  pub blocks : List (List ℕ)
  pub tail : List ℕ

-- that of these parts
abbrev pub heap_in : UncheckedParts → UncheckedHeap
heap_in parts = record { version = parts.version; region_log = parts.region_log; allowance = parts.allowance; blocks = parts.regions.items; tail = parts.tail.items }

-- the words, with the numbers after them as a live list
abbrev pub numbers_of : UncheckedHeap → HeapImage
numbers_of heap = image_of heap.region_log heap.allowance heap.blocks heap.tail

-- the bytes of its image, if it is one
abbrev pub bytes_of : UncheckedHeap → List ℕ
bytes_of heap = listed_text heap.version (numbers_of heap)

-- its image, if it is one
abbrev pub image_in : UncheckedHeap → HeapImage
image_in heap = from_tail heap.version (numbers_of heap)

-- its words, with these live objects
abbrev pub listed_in : UncheckedHeap → List ℕ → HeapImage
listed_in heap live = image_of heap.region_log 0 heap.blocks live

-- the objects are those of the heap, whose sizes are within the limits; these are the references that they may have, or they are
-- well-formed; and these pieces are of them
pub record IsCheckOf (heap : UncheckedHeap) (objects : Found) (marks : Option (List ℕ)) (pieces : HeapImage) : Type 0 where
  pub regions : AreBlocks heap.region_log heap.blocks
  pub fits : HasFittingNumbers heap.version (numbers_of heap)
  pub found : AreOfTail (listed_in heap []) heap.version heap.tail objects
  pub references : AreReferencesOrWellFormed (listed_in heap objects.live.items) marks
  pub noted : pieces ≡ listed_in heap objects.live.items
