-- The new address of each live word.
use Rattle.std.specs.Prelude.{ℕ, ◌+◌, Bool, ◌&&◌, nat_lt, ◌==◌, if◌then◌else◌, List, map, Option, option_map, find, flat_map}
use Rattle.std.specs.List.{list_any, range_with_len}
use Rattle.object_heap.specs.HeapImage.{HeapImage, region_of, start_of, size_at, live_words}
use Rattle.summary.specs.NewAddresses.{prefix_end, new_address, new_top}

module _ (image : HeapImage) where
  -- each word of each live object: its old and its new address
  abbrev pub word_moves : List (ℕ × ℕ)
  word_moves = flat_map (λ a. map (λ i. (a + i, new_address image a + i)) (range_with_len 0 (size_at image a))) image.live

  -- the old address of the word that goes to p
  abbrev pub origin : ℕ → Option ℕ
  origin p = option_map (λ m. m.0) (find (λ m. m.1 == p) word_moves)

  -- a word goes to region d from region s: the fill of d reads s
  abbrev pub reads : ℕ → ℕ → Bool
  reads d s = list_any (λ m. (region_of image m.1 == d) && (region_of image m.0 == s)) word_moves

  -- the regions to fill are those that begin below the new top
  abbrev pub is_to_fill : ℕ → Bool
  is_to_fill d = nat_lt (start_of image d) (new_top image)

  -- The new address of a live word by counting: below the prefix end it stays, above it follows the live words before it.
  abbrev pub slid : ℕ → ℕ
  slid q = if nat_lt q (prefix_end image) then q else prefix_end image + live_words image (prefix_end image) q
