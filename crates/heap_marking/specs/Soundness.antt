-- Which objects of a live list are sound.
use Rattle.std.specs.Prelude.{◌≡◌, List, ℕ, ◌+◌, ◌*◌, ◌/◌, ◌<◌, ◌≤◌, IsTrue, [], All, Option, None, MatchOption, length, slice_index, slice_index_or}
use denote.Ref.{Bor}
use Rattle.object_heap.specs.HeapImage.{HeapImage, HasSoundHeader, heap_words, size_at, end_of, references_at, reference_at, is_null_or_live, with_live, word_at}
use Rattle.object_heap.specs.Bits.{has, MarkBegins}
use Rattle.object_heap.specs.ObjectFaults.{unsound_header, dangling}

-- the i-th live object has a sound header, ends before the next one begins, and each of its references is null or leads
-- to a listed object
pub record IsSoundObject (image : HeapImage) (i : ℕ) : Type 0 where
  pub sound : HasSoundHeader image (slice_index image.live i)
  pub apart : i + 1 < length image.live → end_of image (slice_index image.live i) ≤ slice_index image.live (i + 1)
  pub references : (f : ℕ) → f < references_at image (slice_index image.live i)
      → IsTrue (is_null_or_live image (reference_at image (slice_index image.live i) f))

-- of the live objects of this piece, at most 64, those whose size is noted are sound
abbrev pub AreNoted : HeapImage → ℕ → List ℕ → Type 0
AreNoted image piece sizes = (j : ℕ) → j < 64 → 64 * piece + j < length image.live → 0 < slice_index sizes j
    → IsSoundObject image (64 * piece + j) × (slice_index sizes j ≡ size_at image (slice_index image.live (64 * piece + j)))

-- the same of each piece
abbrev pub AreAllNoted : HeapImage → List (List ℕ) → Type 0
AreAllNoted image sizes = (p : ℕ) → p < length sizes → AreNoted image p (slice_index_or sizes p [])

-- each live object has a sound header, and each of its references is null or leads to a listed object
pub record AreWellFormed (image : HeapImage) : Type 0 where
  pub headers : unsound_header image ≡ None
  pub references : dangling image ≡ None

-- these bits mark the live objects, or there are none and the live objects are well-formed
abbrev pub AreBeginsOrWellFormed : HeapImage → Option (Bor (List ℕ)) → Type 0
AreBeginsOrWellFormed image begins = MatchOption begins (AreWellFormed image) (λ bits. MarkBegins image.live (heap_words image) bits.now)

-- bit r is set where reference r is null or leads to a listed object
pub record MarkReferences (image : HeapImage) (bits : List ℕ) : Type 0 where
  pub room : heap_words image / 64 < length bits
  pub marked : (r : ℕ) → r ≤ heap_words image → has bits r ≡ is_null_or_live image r

-- these bits mark the references to live objects, or there are none and the live objects are well-formed
abbrev pub AreReferencesOrWellFormed : HeapImage → Option (List ℕ) → Type 0
AreReferencesOrWellFormed image marked = MatchOption marked (AreWellFormed image) (MarkReferences image)

-- these addresses are in the heap, and these bits mark the references to them, or there are none and the objects there are
-- well-formed
pub record AreKnown (heap : HeapImage) (live : List ℕ) (marked : Option (Bor (List ℕ))) : Type 0 where
  pub inside : All (λ a. a < heap_words heap) live
  pub marked_or : MatchOption marked (AreWellFormed (with_live heap live)) (λ bits. MarkReferences (with_live heap live) bits.now)

-- each of these references is at most the number of words, and marked
abbrev pub AreMarked : ℕ → List ℕ → List ℕ → Type 0
AreMarked words marked references = (k : ℕ) → k < length references
    → (slice_index references k ≤ words) × IsTrue (has marked (slice_index references k))

-- the same of the words of the heap from one up to another
abbrev pub AreWordsMarked : HeapImage → List ℕ → ℕ → ℕ → Type 0
AreWordsMarked heap marked from to = (p : ℕ) → from ≤ p → p < to
    → (word_at heap p ≤ heap_words heap) × IsTrue (has marked (word_at heap p))
