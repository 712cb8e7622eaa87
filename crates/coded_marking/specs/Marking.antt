-- What a marking has marked.
use Rattle.std.specs.Prelude.{◌≡◌, ℕ, true, List, filter, map}
use Rattle.std.specs.List.{range_with_len}
use Rattle.object_heap.specs.Bits.{has}
use Rattle.object_heap.specs.HeapImage.{HeapImage}
use Rattle.object_heap.specs.Layout.{reference_in}
use Rattle.object_heap.specs.Reachable.{is_listed}

-- A heap's number of words, and the addresses there that are marked, ascending.
pub record Marks : Type 0 where
  pub words : ℕ
  pub marked : List ℕ

-- the addresses below `words` that are in the set, ascending
abbrev pub set_below : ℕ → List ℕ → List ℕ
set_below words bits = filter (has bits) (range_with_len 0 words)

-- the references that these words are, 0 where one leads nowhere
abbrev pub references_by : HeapImage → List ℕ → List ℕ
references_by image words = map (reference_in image.layout) words

-- each of these addresses is one of the others
abbrev pub AreAmong : List ℕ → List ℕ → Type 0
AreAmong others addresses = (a : ℕ) → is_listed addresses a ≡ true → is_listed others a ≡ true
