-- What is wrong with a live list, its objects, their references and the roots: each definition is the first place.
use Rattle.std.specs.Prelude.{ℕ, ◌-◌, Bool, not, ◌&&◌, ◌||◌, nat_lt, nat_le, List, length, map, drop, slice_index, Option, option_map, find, flat_map, zip}
use Rattle.std.specs.List.{range_with_len}
use Rattle.object_heap.specs.HeapImage.{HeapImage, heap_words, references_at, end_of, reference_at, is_null_or_live, is_unsound, roots_of}

-- the i-th address is outside a heap of this number of words or not above the one before it
abbrev pub is_misplaced : ℕ → List ℕ → ℕ → Bool
is_misplaced words live i = nat_le words (slice_index live i)
    || (nat_lt 0 i && nat_le (slice_index live i) (slice_index live (i - 1)))

-- the least such index
abbrev pub misplaced_index : ℕ → List ℕ → Option ℕ
misplaced_index words live = find (is_misplaced words live) (range_with_len 0 (length live))

-- of its roots, its objects and their references
module _ (image : HeapImage) where
  -- the least index of a root that is above the number of words
  abbrev pub misplaced_root : Option ℕ
  misplaced_root = find (λ i. nat_lt (heap_words image) (slice_index (roots_of image) i)) (range_with_len 0 (length (roots_of image)))

  -- the least live address without a sound header
  abbrev pub unsound_header : Option ℕ
  unsound_header = find (is_unsound image) image.live

  -- the least address below the end of the object before it
  abbrev pub overlapping : Option ℕ
  overlapping = option_map (λ p. p.1) (find (λ p. nat_lt p.1 (end_of image p.0)) (zip image.live (drop 1 image.live)))

  -- the fields of an object, from 0, each with its address
  abbrev pub fields_of : ℕ → List (ℕ × ℕ)
  fields_of a = map (λ f. (a, f)) (range_with_len 0 (references_at image a))

  -- the reference in a field is neither null nor to a live object
  abbrev pub is_dangling : ℕ × ℕ → Bool
  is_dangling p = not (is_null_or_live image (reference_at image p.0 p.1))

  -- the least address, and in it the least field, with such a reference
  abbrev pub dangling : Option (ℕ × ℕ)
  dangling = find is_dangling (flat_map fields_of image.live)

  -- a reference leads out of the heap
  abbrev pub is_beyond : ℕ × ℕ → Bool
  is_beyond p = nat_lt (heap_words image) (reference_at image p.0 p.1)

  -- the least live address, and in it the least field, with such a reference
  abbrev pub beyond : Option (ℕ × ℕ)
  beyond = find is_beyond (flat_map fields_of image.live)
