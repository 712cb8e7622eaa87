-- What decoding tells and writes.
use Rattle.std.specs.Prelude.{◌≡◌, ℕ, ◌<◌, ◌≤◌, List, ◌++◌, length, drop}
use Rattle.object_heap.specs.HeapImage.{HeapImage, heap_words, version_of}
use Rattle.pcompact_c.specs.declared.decode.PcompactHeap.{PcompactHeap}

-- the struct tells of an image with these live addresses or roots
pub record IsHeapOf (image : HeapImage) (tail : List ℕ) (heap : PcompactHeap) : Type 0 where
  pub version : heap.version ≡ version_of image
  pub region_log : heap.settings.region_log ≡ image.region_log
  pub allowance : heap.settings.allowance ≡ image.allowance
  pub words : heap.word_count ≡ heap_words image
  pub count : heap.count ≡ length tail

-- A list with room for these numbers begins with them, and is as it was behind them. Another is as it was.
pub record IsPut (numbers old new : List ℕ) : Type 0 where
  pub written : length numbers ≤ length old → new ≡ numbers ++ drop (length numbers) old
  pub kept : length old < length numbers → new ≡ old
