-- Heaps of objects of a host's own layout.
use Rattle.std.specs.Prelude.{◌≡◌, ℕ, ◌≤◌, List, [], length, None}
use Rattle.object_heap.specs.Layout.{Coding, Coded}
use Rattle.object_heap.specs.HeapImage.{HeapImage}
use Rattle.object_heap.specs.declared.version.Version.TheVariants.{One}

-- the heap of these words, without live objects and roots
abbrev pub coded_image : Coding → List ℕ → HeapImage
coded_image coding words =
    record { version = One; layout = Coded coding; region_log = 0; allowance = 0; words = words; live = []; roots = None }

-- there are as many words as the coding is for
pub record IsCodedHeap (coding : Coding) (words : List ℕ) : Type 0 where
  pub all : length words ≡ coding.count
  pub few : length words ≤ 68719476736
