-- The numbers of an image whose sizes and live objects aren't checked.
use Rattle.std.specs.Prelude.{ℕ, List, length}
use Rattle.std.specs.List.{concat}
use Rattle.object_heap.specs.HeapImage.{HeapImage, image_of}
use Rattle.heap_image.specs.ImageText.{front}
use Rattle.heap_image.specs.declared.from_regions.UncheckedParts.{UncheckedParts}

-- the words, with the numbers after them as a live list
abbrev pub numbers_in : UncheckedParts → HeapImage
numbers_in parts = image_of parts.region_log parts.allowance parts.regions.items parts.tail.items

-- the front that the image would have
abbrev pub front_in : UncheckedParts → List ℕ
front_in parts = front parts.version parts.region_log (length parts.tail.items) (length (concat parts.regions.items)) parts.allowance
