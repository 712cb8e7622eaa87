-- Two heaps with the same graph of live objects: the i-th live object of one corresponds to the i-th of the other.
use Rattle.std.specs.Prelude.{◌≡◌, ◌↔◌, ℕ, ◌+◌, ◌<◌}
use Rattle.object_heap.specs.HeapImage.{HeapImage, word_at, size_at, references_at, reference_at}
use Rattle.summary.specs.LiveObjects.{object_count, object_at}

pub record IsSameGraph (before after : HeapImage) : Type 0 where
  pub objects : object_count after ≡ object_count before
  -- size, number of references and kind
  pub headers : (i : ℕ) → i < object_count before → word_at after (object_at after i) ≡ word_at before (object_at before i)
  pub null : (i f : ℕ) → i < object_count before → f < references_at before (object_at before i)
      → (reference_at before (object_at before i) f ≡ 0) ↔ (reference_at after (object_at after i) f ≡ 0)
  -- the f-th reference of the i-th object leads to the k-th object
  pub references : (i f k : ℕ) → i < object_count before → f < references_at before (object_at before i) → k < object_count before
      → (reference_at before (object_at before i) f ≡ object_at before k + 1) ↔ (reference_at after (object_at after i) f ≡ object_at after k + 1)
  -- the words after the references
  pub others : (i j : ℕ) → i < object_count before → references_at before (object_at before i) < j → j < size_at before (object_at before i)
      → word_at after (object_at after i + j) ≡ word_at before (object_at before i + j)
