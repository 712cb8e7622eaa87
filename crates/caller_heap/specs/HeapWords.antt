-- A heap in memory as the bytes of an image.
use Rattle.std.specs.Prelude.{ℕ, List, ◌+◌, ◌*◌, ◌++◌, length, min}
use Rattle.heap_image.specs.ImageText.{front}
use Rattle.image_streams.specs.Numbers.{numbers}
use Rattle.object_heap.specs.declared.version.Version.{Version}
use Rattle.caller_heap.specs.declared.heap_words.HeapWords.{HeapWords}
use Rattle.caller_heap.specs.declared.settings.HeapSettings.{HeapSettings}

-- The bytes of an image of this version with these settings, these words, and these live addresses or roots. The front has
-- no room for a larger count.
abbrev pub heap_bytes : Version → HeapSettings → List ℕ → List ℕ → List ℕ
heap_bytes version settings words tail =
    front version settings.region_log (min (length tail) 4294967295) (length words) settings.allowance ++ (numbers words ++ numbers tail)

-- the number of bytes of an image with these words and numbers after them
abbrev pub image_size : List ℕ → List ℕ → ℕ
image_size words tail = 32 + 8 * (length words + length tail)

-- what the device still has
abbrev pub bytes_left : HeapWords → List ℕ
bytes_left heap = heap.front.now ++ (numbers heap.words.now ++ numbers heap.tail.now)
