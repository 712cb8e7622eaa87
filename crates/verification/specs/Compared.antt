-- The words of an image compared with the compaction of another, and the laws of that compaction.
use Rattle.std.specs.Prelude.{◌≡◌, ℕ, zero, suc, ◌+◌, ◌-◌, ◌<◌, ◌≤◌, ◌≢◌, if◌then◌else◌, IsTrue, true, false, slice_range}
use Rattle.object_heap.specs.HeapImage.{HeapImage, IsValid, HasSoundHeader, heap_words, word_at, size_at, references_at, end_of, is_null_or_live, is_live_word, last_end}
use Rattle.summary.specs.LiveObjects.{object_count, object_at}
use Rattle.summary.specs.NewAddresses.{prefix_end, new_address, new_end_of, new_top}
use Rattle.summary.specs.WordMoves.{slid}
use Rattle.summary.specs.Own.{IsOwn}
use Rattle.summary.specs.Compaction.{is_reference_of, redirected, object_image, compact}

-- at addresses `from` up to `to`, the words of `after` are those of the compaction of `before`
pub record AreCompacted (before after : HeapImage) (from to : ℕ) : Type 0 where
  pub alike : (p : ℕ) → from ≤ p → p < to → word_at after p ≡ word_at (compact before) p

-- a is the lowest of these addresses at which they differ
pub record IsFirstOther (before after : HeapImage) (from to a : ℕ) : Type 0 where
  pub behind : from ≤ a
  pub inside : a < to
  pub differs : word_at after a ≢ word_at (compact before) a
  pub least : (p : ℕ) → from ≤ p → p < a → word_at after p ≡ word_at (compact before) p

-- the dead words from a up to b, which lie between two live words or at an end of the dense prefix
pub record IsGap (image : HeapImage) (a b : ℕ) : Type 0 where
  pub some : a < b
  pub inside : b ≤ prefix_end image
  pub dead : (q : ℕ) → a ≤ q → q < b → is_live_word image q ≡ false
  pub begins : 0 < a → is_live_word image (a - 1) ≡ true
  pub ends : b < prefix_end image → is_live_word image b ≡ true

-- a live object begins at a, and its new address is `place`
pub record IsPlaced (image : HeapImage) (a place : ℕ) : Type 0 where
  pub valid : IsValid image
  pub sound : HasSoundHeader image a
  pub references : (f : ℕ) → f < references_at image a → IsTrue (is_null_or_live image (word_at image (a + 1 + f)))
  pub inside : place + size_at image a ≤ heap_words image
  pub words : (j : ℕ) → j < size_at image a
      → word_at (compact image) (place + j) ≡ (if is_reference_of image a (a + j) then redirected image (word_at image (a + j)) else word_at image (a + j))

-- the end of the last of the first i objects, or 0 if i is 0
unfoldable pub behind : (ℕ → ℕ) → ℕ → ℕ
behind end zero = 0
behind end (suc i) = end i

-- where the i-th live object ends after the collection
abbrev pub new_ends : HeapImage → ℕ → ℕ
new_ends image i = new_end_of image (object_at image i)

-- the words of the i-th live object's new place, and those between it and the place of the one before, are the compaction's
abbrev pub IsObjectCompacted : HeapImage → HeapImage → ℕ → Type 0
IsObjectCompacted before after i = AreCompacted before after (behind (new_ends before) i) (behind (new_ends before) (i + 1))

-- the laws of the new addresses of live objects, for one image
pub record AreKnown (image : HeapImage) : Type 0 where
  pub valid : IsValid image
  pub own : IsOwn image
  pub below_end : prefix_end image ≤ last_end image
  pub owner : (q : ℕ) → is_live_word image q ≡ true → (i : ℕ) × (i < object_count image) × (object_at image i ≤ q) × (q < end_of image (object_at image i))
  pub live : (i q : ℕ) → i < object_count image → object_at image i ≤ q → q < end_of image (object_at image i) → is_live_word image q ≡ true
  pub ordered : (i k : ℕ) → i < k → k < object_count image → end_of image (object_at image i) ≤ object_at image k
  pub counted : (i j : ℕ) → i < object_count image → j < size_at image (object_at image i) → new_address image (object_at image i) + j ≡ slid image (object_at image i + j)
  pub apart : (i k : ℕ) → i < k → k < object_count image → new_end_of image (object_at image i) ≤ new_address image (object_at image k)
  pub below : (i : ℕ) → i < object_count image → new_end_of image (object_at image i) ≤ new_top image
  pub covered : (p : ℕ) → prefix_end image ≤ p → p < new_top image → (i : ℕ) × (i < object_count image) × (new_address image (object_at image i) ≤ p) × (p < new_end_of image (object_at image i))
  pub top : new_top image ≤ heap_words image
  pub object : (i : ℕ) → i < object_count image → slice_range (compact image).words (new_address image (object_at image i)) (new_end_of image (object_at image i)) ≡ object_image image (object_at image i)
