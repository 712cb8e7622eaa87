-- The compacted heap, and the heap between the moves and the update of deferred objects.
use Rattle.std.specs.Prelude.{ℕ, ◌+◌, ◌-◌, Bool, true, not, ◌&&◌, nat_lt, nat_le, ◌==◌, if◌then◌else◌, List, map, Option, Some, None, option_map}
use Rattle.std.specs.List.{list_any, range_with_len}
use Rattle.object_heap.specs.Layout.{reference_in, redirected_in}
use Rattle.object_heap.specs.HeapImage.{HeapImage, heap_words, region_of, word_at, size_at, references_at}
use Rattle.summary.specs.NewAddresses.{new_address, new_end_of, new_live, new_top}
use Rattle.summary.specs.WordMoves.{origin}
use Rattle.summary.specs.Fillers.{filler_word}

module _ (image : HeapImage) where
  -- null stays null, and a reference to an object leads to its new address
  abbrev pub redirected : ℕ → ℕ
  redirected w = if w == 0 then 0 else new_address image (w - 1) + 1

  -- a word that is a reference, redirected
  abbrev pub redirected_word : ℕ → ℕ
  redirected_word w = redirected_in image.layout w (redirected (reference_in image.layout w))

  -- q is one of the references of the object at a, which follow its header
  abbrev pub is_reference_of : ℕ → ℕ → Bool
  is_reference_of a q = nat_lt a q && nat_le q (a + references_at image a)

  -- the words of the object at a, its references redirected
  abbrev pub object_image : ℕ → List ℕ
  object_image a = map (λ q. if is_reference_of a q then redirected_word (word_at image q) else word_at image q) (range_with_len a (size_at image a))

  -- a live object is deferred if its new words cross the end of the region in which they begin
  abbrev pub is_deferred : ℕ → Bool
  is_deferred a = not (region_of image (new_address image a) == region_of image (new_end_of image a - 1))

  -- the word at the old address q, redirected if it is a reference of a live object that passes the test
  abbrev pub carried : (ℕ → Bool) → ℕ → ℕ
  carried test q = if list_any (λ a. is_reference_of a q && test a) image.live then redirected_word (word_at image q) else word_at image q

  -- the word to write at p, below the new top: the one that goes there, or else the word of a filler
  abbrev pub written : (ℕ → Bool) → Option ℕ → ℕ → ℕ
  written test (Some q) p = carried test q
  written test None p = filler_word image p

  -- The word at p after all moves are made and the references of the live objects that pass the test are redirected.
  -- The words from the new top up are the old ones.
  abbrev pub word_by : (ℕ → Bool) → ℕ → ℕ
  word_by test p = if nat_lt p (new_top image) then written test (origin image p) p else word_at image p

  -- the word at p before the update of the deferred objects, whose references still have old addresses
  abbrev pub moved_word : ℕ → ℕ
  moved_word p = word_by (λ a. not (is_deferred a)) p

  -- the word at p after the collection
  abbrev pub compacted_word : ℕ → ℕ
  compacted_word p = if nat_lt p (new_top image) then written (λ _. true) (origin image p) p else 0

  -- the image after all moves are made; its live list still has the old addresses
  abbrev pub moved : HeapImage
  moved = record image { words = map moved_word (range_with_len 0 (heap_words image)) }

  -- The compaction of the image: the dense prefix with fillers in its gaps, then all other live words in their order
  -- without a gap, and zeros from the new top up. Roots lead to the new addresses.
  abbrev pub compact : HeapImage
  compact = record image {
    words = map compacted_word (range_with_len 0 (heap_words image));
    live = new_live image;
    roots = option_map (map redirected) image.roots;
  }
