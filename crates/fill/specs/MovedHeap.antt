-- The words of a heap between the moves and the end of a collection.
use Rattle.std.specs.Prelude.{◌≡◌, ℕ, ◌+◌, ◌-◌, ◌*◌, ◌≤◌, Bool, false, ◌&&◌, nat_lt, nat_le, if◌then◌else◌, List, ◌++◌, length, take, replicate, map, Option, Some, None}
use Rattle.std.specs.List.{concat, list_any, range_with_len}
use Rattle.object_heap.specs.Layout.{references_in}
use Rattle.object_heap.specs.HeapImage.{HeapImage, AreBlocks, heap_words, region_words, region_count, start_of}
use Rattle.summary.specs.Compaction.{moved_word, redirected_word}
use Rattle.summary.specs.RegionData.{region_addresses, deferred}
use Rattle.summary.specs.Updates.{is_late_reference}

-- the words, with zeros from address `top` up
abbrev pub cleared : ℕ → List ℕ → List ℕ
cleared top words = take top words ++ replicate (length words - top) 0

module _ (image : HeapImage) where
  -- `count` regions from region `first` on, each with its moved words
  abbrev pub moved_regions_from : ℕ → ℕ → List (List ℕ)
  moved_regions_from first count = map (λ r. map (moved_word image) (region_addresses image r)) (range_with_len first count)

  -- the regions of the heap, each with its moved words
  abbrev pub moved_regions : List (List ℕ)
  moved_regions = moved_regions_from 0 (region_count image)

  -- the moved word at p, redirected if p passes the test
  abbrev pub redirected_where : (ℕ → Bool) → ℕ → ℕ
  redirected_where test p = if test p then redirected_word image (moved_word image p) else moved_word image p

  -- the words of `count` regions from region `first` on, redirected where the test passes
  abbrev pub words_from : ℕ → ℕ → (ℕ → Bool) → List ℕ
  words_from first count test = map (redirected_where test) (range_with_len (start_of image first) (count * region_words image))

  -- the words of the heap, redirected where the test passes
  abbrev pub words_where : (ℕ → Bool) → List ℕ
  words_where test = map (redirected_where test) (range_with_len 0 (heap_words image))

  -- the words of the heap once the references of the deferred objects are redirected
  abbrev pub updated_words : List ℕ
  updated_words = words_where (is_late_reference image)

  -- the address of the last reference of the moved object at x, or x if it has none
  abbrev pub last_reference : ℕ → ℕ
  last_reference x = x + references_in image.layout (moved_word image x)

  -- p is one of the references of the moved object at x
  abbrev pub is_reference_behind : ℕ → ℕ → Bool
  is_reference_behind x p = nat_lt x p && nat_le p (last_reference x)

  -- p is one of the references of the deferred object, if there is one
  abbrev pub is_late_behind : Option ℕ → ℕ → Bool
  is_late_behind None p = false
  is_late_behind (Some x) p = is_reference_behind x p

  -- p is a reference of a deferred object that begins in one of the first d regions
  abbrev pub is_late_before : ℕ → ℕ → Bool
  is_late_before d p = list_any (λ e. is_late_behind (deferred image e) p) (range_with_len 0 d)

  -- no deferred object that begins in one of the first d regions has a reference in a later region
  abbrev pub IsCut : ℕ → Type 0
  IsCut d = (p : ℕ) → start_of image d ≤ p → is_late_before d p ≡ false

  -- The blocks are regions from region `first` on, each with its moved words, and no deferred object has references
  -- both inside and outside of them.
  pub record IsMovedPart (first : ℕ) (blocks : List (List ℕ)) : Type 0 where
    pub inside : first + length blocks ≤ region_count image
    pub moved : blocks ≡ moved_regions_from first (length blocks)
    pub begins : IsCut first
    pub ends : IsCut (first + length blocks)

  -- the blocks are `count` regions from region `first` on, with the references of the deferred objects redirected
  pub record IsUpdatedPart (first count : ℕ) (blocks : List (List ℕ)) : Type 0 where
    pub whole : AreBlocks image.region_log blocks
    pub words : concat blocks ≡ words_from first count (is_late_reference image)
