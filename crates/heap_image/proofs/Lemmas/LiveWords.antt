-- The live list of a sound image is a list of spans that do not overlap.
use Rattle.std.proofs.Common.{ℕ, suc, ◌+◌, ◌≤◌, ◌<◌, List, [], ◌∷◌, length, get_or, subst, arith, add-one}
use Rattle.std.specs.List.{AllAdjacentBelow}
use Rattle.object_heap.specs.HeapImage.{HeapImage, HasLiveList, size_at, end_of, heap_words}

-- a list of places whose spans follow one another from low on
abbrev pub Apart : (ℕ → ℕ) → ℕ → List ℕ → Type 0
Apart size low [] = Unit {0}
Apart size low (a ∷ others) = (low ≤ a) × Apart size (a + size a) others

Apart-from_adjacent : (size : ℕ → ℕ) (low : ℕ) (places : List ℕ) → (0 < length places → low ≤ get_or places 0 0) → AllAdjacentBelow (λ a b. a + size a ≤ b) places (length places) → Apart size low places
Apart-from_adjacent size low [] first h = tt
Apart-from_adjacent size low (a ∷ others) first h =
    (first (omega arith), Apart-from_adjacent size (a + size a) others (next others h) (λ k d l. tail k d l))
  where
    next : (others : List ℕ) → AllAdjacentBelow (λ a b. a + size a ≤ b) (a ∷ others) (length (a ∷ others)) → 0 < length others → a + size a ≤ get_or others 0 0
    next [] h l = omega arith
    next (b ∷ more) h l = h 0 0 (omega arith)

    tail : (k d : ℕ) → k + 1 < length others → get_or others k d + size (get_or others k d) ≤ get_or others (k + 1) d
    tail k d l = rw (add-one k) (subst (λ n. get_or others k d + size (get_or others k d) ≤ get_or (a ∷ others) n d) (add-one (suc k)) (h (suc k) d (omega arith)))

module _ (image : HeapImage) (sound : HasLiveList image) where
  pub live_apart : Apart (size_at image) 0 image.live
  live_apart = Apart-from_adjacent (size_at image) 0 image.live (λ _. omega arith) sound.apart

  pub live_end-le : (i : ℕ) → i < length image.live → end_of image (get_or image.live i 0) ≤ heap_words image
  live_end-le i h = (sound.sound i 0 h).inside
