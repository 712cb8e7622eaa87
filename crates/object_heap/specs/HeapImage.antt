-- A heap with its live objects, as contracts see an image.
use Rattle.std.specs.Prelude.{◌≡◌, ℕ, zero, suc, ◌+◌, ◌-◌, ◌*◌, ◌/◌, ◌%◌, ◌^◌, ◌<◌, ◌≤◌, Bool, not, ◌&&◌, ◌||◌, nat_lt, nat_le, ◌==◌, IsTrue, List, [], length, take, drop, fold, filter, All, count_by, slice_index, Option, None, Some, IfSome}
use Rattle.std.specs.List.{concat, list_any, range_with_len, AllAdjacentBelow}
use Rattle.std.specs.Option.{is_some}
use Rattle.object_heap.specs.Layout.{Layout, Own, IsLayout, size_in, references_in, kind_in, reference_in}
use Rattle.object_heap.specs.Version.{Allows, has_roots, number_of}
use Rattle.object_heap.specs.declared.version.Version.{Version}
use Rattle.object_heap.specs.declared.version.Version.TheVariants.{One}

-- Address a is the a-th word. A region is 2 ^ region_log consecutive words. The allowance is the number of dead words
-- that the dense prefix may keep. The live list has the address of each live object. An image of version 2 or 3 has
-- roots.
pub record HeapImage : Type 0 where
  pub version : Version
  pub layout : Layout
  pub region_log : ℕ
  pub allowance : ℕ
  pub words : List ℕ
  pub live : List ℕ
  pub roots : Option (List ℕ)

-- roots, or other numbers if there are none
abbrev pub roots_or : List ℕ → Option (List ℕ) → List ℕ
roots_or others None = others
roots_or others (Some roots) = roots

abbrev pub roots_of : HeapImage → List ℕ
roots_of image = roots_or [] image.roots

abbrev pub version_of : HeapImage → ℕ
version_of image = number_of image.version

module _ (image : HeapImage) where
  abbrev pub region_words : ℕ
  region_words = 2 ^ image.region_log

  abbrev pub heap_words : ℕ
  heap_words = length image.words

  -- the number of regions
  abbrev pub region_count : ℕ
  region_count = heap_words / region_words

  abbrev pub region_of : ℕ → ℕ
  region_of a = a / region_words

  abbrev pub start_of : ℕ → ℕ
  start_of r = r * region_words

  abbrev pub word_at : ℕ → ℕ
  word_at a = slice_index image.words a

  -- the words of region r
  abbrev pub block_of : ℕ → List ℕ
  block_of r = take region_words (drop (start_of r) image.words)

  -- of the object at a: its size, its number of references, its kind, and the address after its last word
  abbrev pub size_at : ℕ → ℕ
  size_at a = size_in image.layout (word_at a)

  abbrev pub references_at : ℕ → ℕ
  references_at a = references_in image.layout (word_at a)

  abbrev pub kind_at : ℕ → ℕ
  kind_at a = kind_in image.layout (word_at a)

  abbrev pub end_of : ℕ → ℕ
  end_of a = a + size_at a

  -- the f-th reference of the object at a, from 0: the references follow the header
  abbrev pub reference_at : ℕ → ℕ → ℕ
  reference_at a f = reference_in image.layout (word_at (a + 1 + f))

  -- a reference is 0, which is null, or 1 plus the address of a live object
  abbrev pub is_null_or_live : ℕ → Bool
  is_null_or_live w = (w == 0) || list_any (λ a. w == a + 1) image.live

  -- q is one of the words of the object at a
  abbrev pub is_word_of : ℕ → ℕ → Bool
  is_word_of a q = nat_le a q && nat_lt q (end_of a)

  -- q is a word of a live object; the other words are dead
  abbrev pub is_live_word : ℕ → Bool
  is_live_word q = list_any (λ a. is_word_of a q) image.live

  abbrev pub is_dead_word : ℕ → Bool
  is_dead_word q = not (is_live_word q)

  -- the number of live words from one address up to another
  abbrev pub live_words : ℕ → ℕ → ℕ
  live_words from to = count_by is_live_word (range_with_len from (to - from))

  -- the word at an address is not the header of an object that fits
  abbrev pub is_unsound : ℕ → Bool
  is_unsound a = not (kind_at a == 1) || (size_at a == 0) || nat_le (size_at a) (references_at a) || nat_lt heap_words (end_of a)

  -- the end of the last live object, or 0 if there is none
  abbrev pub last_end : ℕ
  last_end = fold (λ _ a. end_of a) 0 image.live

-- an object has a header of kind 1 and at least that word, fewer references than words, and ends within the heap
pub record HasSoundHeader (image : HeapImage) (a : ℕ) : Type 0 where
  pub object : kind_at image a ≡ 1
  pub header : 0 < size_at image a
  pub references : references_at image a < size_at image a
  pub inside : end_of image a ≤ heap_words image

-- The live list names sound objects in ascending order that do not overlap, and each of their references is null or
-- leads to a listed object.
pub record HasLiveList (image : HeapImage) : Type 0 where
  pub sound : All (λ a. HasSoundHeader image a) image.live
  pub apart : AllAdjacentBelow (λ a b. end_of image a ≤ b) image.live (length image.live)
  pub references : All (λ a. (f : ℕ) → f < references_at image a
      → IsTrue (is_null_or_live image (reference_at image a f))) image.live

-- a reference or a root that leads to an address is 1 plus it; 0 is null
abbrev pub leads_to : ℕ → ℕ → Bool
leads_to w b = w == b + 1

module _ (image : HeapImage) where
  -- the object at a has a sound header, and one of its references leads to b
  abbrev pub refers_to : ℕ → ℕ → Bool
  refers_to a b = not (is_unsound image a) && list_any (λ f. leads_to (reference_at image a f) b) (range_with_len 0 (references_at image a))

  -- the addresses of the heap that are listed, or to which a listed object refers
  abbrev pub with_referred : List ℕ → List ℕ
  with_referred xs = filter (λ b. list_any (λ a. (b == a) || refers_to a b) xs) (range_with_len 0 (heap_words image))

  -- the addresses of the heap that are reached from these roots by at most this number of references
  abbrev pub reached_in : List ℕ → ℕ → List ℕ
  reached_in roots zero = filter (λ b. list_any (λ w. leads_to w b) roots) (range_with_len 0 (heap_words image))
  reached_in roots (suc n) = with_referred (reached_in roots n)

  -- The addresses that are reachable from these roots, ascending. No path to one needs more references than the heap
  -- has words.
  unfoldable pub reachable : List ℕ → List ℕ
  reachable roots = reached_in roots (heap_words image)

-- each root is null or leads into the heap, and the live objects are those reachable from the roots
pub record AreRoots (image : HeapImage) (roots : List ℕ) : Type 0 where
  pub few : length roots ≤ heap_words image
  pub counted : length roots < 2 ^ 32
  pub inside : All (λ w. w ≤ heap_words image) roots
  pub reached : image.live ≡ reachable image roots

-- the sizes that the format allows in its largest version
pub record IsWithinLimits (region_log words live_count : ℕ) : Type 0 where
  pub region_log_low : 3 ≤ region_log
  pub region_log_high : region_log ≤ 20
  pub not_empty : 0 < words
  pub whole_regions : words % 2 ^ region_log ≡ 0
  pub few_words : words ≤ 68719476736
  pub few_regions : words / 2 ^ region_log ≤ 1048576
  pub few_live : live_count ≤ words

pub record IsValid (image : HeapImage) : Type 0 where
  pub own : image.layout ≡ Own
  pub lawful : IsLayout image.layout (heap_words image)
  pub limits : IsWithinLimits image.region_log (heap_words image) (length image.live)
  pub allowed : Allows image.version image.region_log (heap_words image)
  pub allowance_fits : image.allowance < 2 ^ 64
  pub words_fit : All (λ w. w < 2 ^ 64) image.words
  pub live_list : HasLiveList image
  pub versioned : is_some image.roots ≡ has_roots image.version
  pub rooted : IfSome image.roots (AreRoots image)

-- each of these blocks has the words of one region
abbrev pub AreBlocks : ℕ → List (List ℕ) → Type 0
AreBlocks region_log blocks = All (λ block. length block ≡ 2 ^ region_log) blocks

-- the image of the heap whose regions hold these blocks, one after the other
abbrev pub image_of : ℕ → ℕ → List (List ℕ) → List ℕ → HeapImage
image_of region_log allowance blocks live =
    record { version = One; layout = Own; region_log = region_log; allowance = allowance; words = concat blocks; live = live; roots = None }

-- the same heap with these live objects, and without roots
abbrev pub with_live : HeapImage → List ℕ → HeapImage
with_live heap live = record heap { live = live; roots = None }

-- the heap of an image, without live objects and roots
abbrev pub words_alone : HeapImage → HeapImage
words_alone image = record image { version = One; allowance = 0; live = []; roots = None }

-- the image of the same blocks in any version, with roots or without
abbrev pub versioned_image_of : Version → ℕ → ℕ → List (List ℕ) → List ℕ → Option (List ℕ) → HeapImage
versioned_image_of version region_log allowance blocks live roots =
    record { version = version; layout = Own; region_log = region_log; allowance = allowance; words = concat blocks; live = live; roots = roots }

-- blocks of this size form a heap that is not too large
pub record FormHeap (region_log : ℕ) (blocks : List (List ℕ)) : Type 0 where
  pub log : region_log ≤ 20
  pub whole : AreBlocks region_log blocks
  pub few : length (concat blocks) ≤ 68719476736

-- these parts are those of a valid image
pub record AreValidParts (version : Version) (region_log allowance : ℕ) (blocks : List (List ℕ)) (live : List ℕ) (roots : Option (List ℕ)) : Type 0 where
  pub whole : AreBlocks region_log blocks
  pub valid : IsValid (versioned_image_of version region_log allowance blocks live roots)
