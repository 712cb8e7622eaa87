-- Words of a host before and after they are lent.
use Rattle.std.specs.Prelude.{◌≡◌, ◌≤◌, ◌^◌, ◌⊎◌, ℕ, Bool, true, false, List, All, length, map}
use Rattle.std.specs.List.{concat, range_with_len}
use Rattle.std.specs.Ptr.{Ptr}
use Rattle.image_streams.specs.declared.fault.Fault.{Fault}
use Rattle.image_streams.specs.declared.fault.Fault.TheVariants.{Length, Workers}
use Rattle.object_heap.specs.HeapImage.{HeapImage, block_of, region_count}
use Rattle.caller_heap.specs.Collected.{IsWhyKept}

-- as contracts see words of a host: whether they are held, where they are, how many, and what they are
abbrev pub Lent : Type 0
Lent = Bool × Ptr × ℕ × List ℕ

abbrev pub words_in : Lent → List ℕ
words_in w = w.3

-- the words of the heap in these regions
abbrev pub heap_in : List Lent → List ℕ
heap_in words = concat (map words_in words)

abbrev pub IsHeld : Lent → Type 0
IsHeld w = w.0 ≡ true

abbrev pub IsGone : Lent → Type 0
IsGone w = w.0 ≡ false

-- whether words are held, and what they are
abbrev pub content : Lent → Bool × List ℕ
content w = (w.0, w.3)

-- the content of words that are held
abbrev pub held : List ℕ → Bool × List ℕ
held block = (true, block)

-- Each is held as before, with the same words. At which place, no clause says.
abbrev pub AreBack : List Lent → List Lent → Type 0
AreBack before after = map content after ≡ map content before

-- it is held, with as many words as a region of a size that there may be
abbrev pub IsRegion : ℕ → Lent → Type 0
IsRegion region_log w = (w.0 ≡ true) × (w.2 ≡ length w.3) × (length w.3 ≡ 2 ^ region_log) × (region_log ≤ 20)

abbrev pub AreRegions : ℕ → List Lent → Type 0
AreRegions region_log words = All (IsRegion region_log) words

-- the words of each region of an image
abbrev pub blocks_of : HeapImage → List (List ℕ)
blocks_of image = map (block_of image) (range_with_len 0 (region_count image))

-- each region of the image is held in its place
abbrev pub HoldImage : HeapImage → List Lent → Type 0
HoldImage image words = map content words ≡ map held (blocks_of image)

-- Some region's memory isn't a host's, so that its words can't be put back. A contract sees the words of a region, and not
-- whose memory they are in: so none excludes this fault where words that were lent come back.
abbrev pub IsNotLent : Fault → Type 0
IsNotLent fault = fault ≡ Workers

-- What keeps words from being collected where they lie: what keeps others, that they aren't a region each, or that some can't
-- be put back.
abbrev pub IsWhyLentKept : ℕ → List Lent → List ℕ → Fault → Type 0
IsWhyLentKept region_log words bytes fault = IsWhyKept bytes fault ⊎ (((fault ≡ Length) × (AreRegions region_log words → ⊥)) ⊎ IsNotLent fault)
