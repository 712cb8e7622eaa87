-- Regions that wait for each other, and the longest chain of them.
use Rattle.std.specs.Prelude.{◌≡◌, ⊤, ℕ, ◌+◌, ◌-◌, ◌*◌, ◌<◌, ◌≤◌, min, sum_by, Bool, not, ◌&&◌, ◌==◌, IsTrue, List, [], ◌∷◌, length, slice_index}
use Rattle.object_heap.specs.HeapImage.{HeapImage, region_words, start_of}
use Rattle.summary.specs.NewAddresses.{new_top}
use Rattle.summary.specs.WordMoves.{reads, is_to_fill}

module _ (image : HeapImage) where
  -- the number of words that the fill of region d leaves in it: those below the new top
  abbrev pub fill_words : ℕ → ℕ
  fill_words d = min (region_words image) (new_top image - start_of image d)

  -- region s may not be filled before region d has copied its words out of s
  abbrev pub waits_for : ℕ → ℕ → Bool
  waits_for s d = reads image d s && not (d == s)

  -- region s waits for the first of these regions, and each of them for the next
  abbrev pub IsAwaited : ℕ → List ℕ → Type 0
  IsAwaited s [] = ⊤
  IsAwaited s (d ∷ others) = IsTrue (waits_for s d) × IsAwaited d others

  -- regions to fill, each of which waits for the next
  abbrev pub IsChain : List ℕ → Type 0
  IsChain [] = ⊤
  IsChain (s ∷ others) = IsTrue (is_to_fill image s) × IsAwaited s others

  -- the number of words that the fills of these regions leave in them
  abbrev pub words_of : List ℕ → ℕ
  words_of regions = sum_by fill_words regions

-- the greatest number of words of a chain
pub record IsLongestChain (image : HeapImage) (words : ℕ) : Type 0 where
  pub chain : List ℕ
  pub is : IsChain image chain
  pub has : words_of image chain ≡ words
  pub longest : (other : List ℕ) → IsChain image other → words_of image other ≤ words

-- the greatest number of words of a chain that begins with region s
pub record IsLongestFrom (image : HeapImage) (s words : ℕ) : Type 0 where
  pub others : List ℕ
  pub awaited : IsAwaited image s others
  pub has : words_of image (s ∷ others) ≡ words
  pub longest : (rest : List ℕ) → IsAwaited image s rest → words_of image (s ∷ rest) ≤ words

-- the greatest number of words of what follows region s in a chain
pub record IsLongestAfter (image : HeapImage) (s words : ℕ) : Type 0 where
  pub others : List ℕ
  pub awaited : IsAwaited image s others
  pub has : words_of image others ≡ words
  pub longest : (rest : List ℕ) → IsAwaited image s rest → words_of image rest ≤ words

-- for each region from 0 on, the words of the longest chain that begins with it
pub record AreLongest (image : HeapImage) (chains : List ℕ) : Type 0 where
  pub each : (s : ℕ) → s < length chains → IsLongestFrom image s (slice_index chains s)
  pub few : (s : ℕ) → s < length chains → slice_index chains s ≤ (s + 1) * 1048576
