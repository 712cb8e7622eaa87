-- The versions of the format, and how large an image of each may be.
use Rattle.std.specs.Prelude.{◌≡◌, ℕ, Bool, true, false, ◌+◌, ◌/◌, ◌^◌, ◌≤◌, List, [], ◌∷◌, ◌++◌, codes, Option, None, Some}
use Rattle.object_heap.specs.declared.version.Version.{Version}
use Rattle.object_heap.specs.declared.version.Version.TheVariants.{One, Two, Three}

abbrev pub number_of : Version → ℕ
number_of One = 1
number_of Two = 2
number_of Three = 3

-- the first 8 bytes of a text: PCHEAP0 and the digit of the version
abbrev pub magic : Version → List ℕ
magic version = codes "PCHEAP0" ++ (48 + number_of version) ∷ []

-- whether an image of this version has roots; otherwise it lists its live objects
abbrev pub has_roots : Version → Bool
has_roots One = false
has_roots _ = true

-- the largest region log
abbrev pub max_region_log : Version → ℕ
max_region_log Three = 20
max_region_log _ = 16

-- the largest number of words
abbrev pub max_words : Version → ℕ
max_words Three = 68719476736
max_words _ = 4194304

-- the largest number of regions
abbrev pub max_regions : Version → ℕ
max_regions Three = 1048576
max_regions _ = 16384

-- this version allows these sizes
pub record Allows (version : Version) (region_log words : ℕ) : Type 0 where
  pub region_log_high : region_log ≤ max_region_log version
  pub few_words : words ≤ max_words version
  pub few_regions : words / 2 ^ region_log ≤ max_regions version

-- the version of an image with roots of these sizes: version 2 where it allows them, else version 3
pub record IsForRoots (region_log words : ℕ) (version : Version) : Type 0 where
  pub small : Allows Two region_log words → version ≡ Two
  pub large : (Allows Two region_log words → ⊥) → version ≡ Three

-- the version that is requested, or if none is, that for roots
abbrev pub IsChosen : Option Version → ℕ → ℕ → Version → Type 0
IsChosen (Some requested) region_log words version = version ≡ requested
IsChosen None region_log words version = IsForRoots region_log words version
