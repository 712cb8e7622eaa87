-- The references of planned objects, in a host's words.
use Rattle.std.specs.Prelude.{ℕ, ◌+◌, ◌-◌, ◌==◌, Bool, ◌&&◌, nat_lt, nat_le, if◌then◌else◌, List, length, map, slice_index}
use Rattle.std.specs.List.{list_any, range_with_len}
use Rattle.object_heap.specs.Layout.{Coding, coded_references, coded_reference, coded_redirected}
use Rattle.object_heap.specs.HeapImage.{HeapImage, is_word_of, is_live_word}
use Rattle.summary.specs.WordMoves.{slid}

-- A reference once the plan of this image is known: one that leads to a live word leads to where that goes, one that leads to
-- another word of the heap is dead, and a word that leads nowhere stays.
module _ (image : HeapImage) (c : Coding) (dead : ℕ) where
  unfoldable pub redirected_reference : ℕ → ℕ
  redirected_reference w = if coded_reference c w == 0 then w else
      if is_live_word image (coded_reference c w - 1) then coded_redirected c w (slid image (coded_reference c w - 1) + 1) else dead

-- Words of the heap, from address `first` on.
module _ (image : HeapImage) (c : Coding) (first : ℕ) (words : List ℕ) where
  -- q is one of the references of the planned object at a: they follow its header, which is among these words
  unfoldable pub is_reference_in : ℕ → ℕ → Bool
  is_reference_in a q = nat_le first a && (nat_lt a q && (is_word_of image a q && nat_le q (a + coded_references c (slice_index words (a - first)))))

  -- it is one of those of some planned object that begins among these words
  abbrev pub is_planned_reference : ℕ → Bool
  is_planned_reference q = list_any (λ a. is_reference_in a q) image.live

  -- the i-th of these words, redirected if it is such a reference
  abbrev pub redirected_at : ℕ → ℕ → ℕ
  redirected_at dead i = if is_planned_reference (first + i) then redirected_reference image c dead (slice_index words i) else slice_index words i

  -- all of them
  abbrev pub redirected_words : ℕ → List ℕ
  redirected_words dead = map (redirected_at dead) (range_with_len 0 (length words))
