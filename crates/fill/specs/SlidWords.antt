-- The words of opaque objects, which slide as they are.
use Rattle.std.specs.Prelude.{◌≡◌, ℕ, ◌%◌, ◌<◌, nat_lt, if◌then◌else◌, List, length, map, slice_index, Option, Some, None}
use Rattle.object_heap.specs.HeapImage.{HeapImage, region_words, region_count, region_of}
use Rattle.summary.specs.NewAddresses.{new_top}
use Rattle.summary.specs.WordMoves.{origin}
use Rattle.summary.specs.RegionData.{region_addresses}

module _ (image : HeapImage) (held : ℕ → List ℕ) where
  -- each region holds as many words as a region of the heap has
  abbrev pub AreWhole : Type 0
  AreWhole = (r : ℕ) → r < region_count image → length (held r) ≡ region_words image

  -- the word at an address, where the regions hold these words
  abbrev pub held_word : ℕ → ℕ
  held_word p = slice_index (held (region_of image p)) (p % region_words image)

  -- the word that goes to p from an address, or the one that is there, if none goes there
  abbrev pub word_from : Option ℕ → ℕ → ℕ
  word_from (Some q) p = held_word q
  word_from None p = held_word p

  -- the word at p once all live words have slid
  abbrev pub slid_word : ℕ → ℕ
  slid_word p = if nat_lt p (new_top image) then word_from (origin image p) p else held_word p

  -- the words of region r once all live words have slid
  abbrev pub slid_block : ℕ → List ℕ
  slid_block r = map slid_word (region_addresses image r)
