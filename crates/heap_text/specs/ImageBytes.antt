-- What is left of the bytes of an image.
use Rattle.std.specs.Prelude.{◌≡◌, ℕ, List, ◌++◌, drop, flat_map, reverse}
use Rattle.object_heap.specs.HeapImage.{HeapImage}
use Rattle.heap_image.specs.ImageText.{text}
use Rattle.image_streams.specs.Numbers.{numbers}
use Rattle.heap_text.specs.declared.image_bytes.ImageBytes.{ImageBytes}

-- the numbers that are left: of the current chunk, of those after it, and after the words
abbrev pub numbers_left : ImageBytes → List ℕ
numbers_left image = drop image.index image.chunk.items ++ (flat_map (λ chunk. chunk.items) (reverse image.chunks.items) ++ image.tail.now)

abbrev pub bytes_left : ImageBytes → List ℕ
bytes_left image = drop image.byte image.bytes ++ numbers (numbers_left image)

-- the device gives the bytes of this image
abbrev pub Gives : HeapImage → ImageBytes → Type 0
Gives image bytes = bytes_left bytes ≡ text image
