-- Opaque objects, of which only the addresses and sizes are known.
use Rattle.std.specs.Prelude.{◌≡◌, ◌⊎◌, ℕ, ◌+◌, ◌-◌, ◌*◌, ◌^◌, ◌<◌, ◌==◌, ◌&&◌, ◌||◌, nat_lt, if◌then◌else◌, List, [], ◌∷◌, length, map, slice_index, Option, None, Some}
use Rattle.std.specs.Int.{div_ceil}
use Rattle.std.specs.List.{range_with_len}
use Rattle.object_heap.specs.Header.{object_header}
use Rattle.object_heap.specs.HeapImage.{HeapImage, IsValid}
use Rattle.object_heap.specs.Layout.{Own}
use Rattle.object_heap.specs.ObjectFaults.{is_misplaced}
use Rattle.object_heap.specs.Sizes.{AreSizesOf}
use Rattle.object_heap.specs.declared.version.Version.TheVariants.{Three}
use Rattle.image_streams.specs.declared.fault.Fault.{Fault}
use Rattle.image_streams.specs.declared.fault.Fault.TheVariants.{RegionLog, Length, LiveOrder, Header, Overlap}
use Rattle.heap_image.specs.ImageText.{fault_if, first_some}

-- by the lists of addresses and sizes, the size of the object that begins at a, or 0 if none does
abbrev pub size_listed : List ℕ → List ℕ → ℕ → ℕ
size_listed [] sizes a = 0
size_listed (b ∷ live) [] a = 0
size_listed (b ∷ live) (n ∷ sizes) a = if a == b then n else size_listed live sizes a

-- a header of this size without references, or 0 for none
abbrev pub header_if_any : ℕ → ℕ
header_if_any size = if size == 0 then 0 else object_header size 0

-- The image that says of opaque objects what is known: each is a header without references at its address, with its size. All
-- its other words are 0, whatever the objects hold. It has a root to each object.
abbrev pub opaque_image : (region_log allowance regions : ℕ) (live sizes : List ℕ) → HeapImage
opaque_image region_log allowance regions live sizes = record {
  version = Three;
  layout = Own;
  region_log = region_log;
  allowance = allowance;
  words = map (λ a. header_if_any (size_listed live sizes a)) (range_with_len 0 (regions * 2 ^ region_log));
  live = live;
  roots = Some (map (λ a. a + 1) live);
}

-- the regions are too small or too large, or there are no words, or too many words, regions or objects
abbrev pub settings_fault : (region_log words count : ℕ) → Option Fault
settings_fault region_log words count = first_some (
    fault_if (nat_lt region_log 3 || nat_lt 20 region_log) RegionLog
    ∷ fault_if ((words == 0) || (nat_lt 68719476736 words || (nat_lt 1048576 (div_ceil words (2 ^ region_log)) || nat_lt 4294967295 count))) Length
    ∷ [])

module _ (words : ℕ) (live sizes : List ℕ) where
  -- What is wrong with the i-th object of a heap of this number of words: it isn't in order, has no word or ends behind the heap,
  -- or begins before the end of the one before it.
  abbrev pub object_fault : ℕ → Option Fault
  object_fault i = first_some (
      fault_if (is_misplaced words live i) (LiveOrder i)
      ∷ fault_if ((slice_index sizes i == 0) || nat_lt words (slice_index live i + slice_index sizes i)) (Header (slice_index live i))
      ∷ fault_if (nat_lt 0 i && nat_lt (slice_index live i) (slice_index live (i - 1) + slice_index sizes (i - 1))) (Overlap (slice_index live i))
      ∷ [])

  -- nothing is wrong with any object
  abbrev pub AreApart : Type 0
  AreApart = (i : ℕ) → i < length live → object_fault i ≡ None

  -- this is wrong with the first object with which something is
  abbrev pub IsFirstObjectFault : Fault → Type 0
  IsFirstObjectFault fault = (i : ℕ) × (i < length live) × (object_fault i ≡ Some fault) × ((j : ℕ) → j < i → object_fault j ≡ None)

-- the first fault of opaque objects: of the heap's numbers, or else of its objects
abbrev pub IsFirstFaultOf : (region_log words : ℕ) (live sizes : List ℕ) → Fault → Type 0
IsFirstFaultOf region_log words live sizes fault =
    (settings_fault region_log words (length live) ≡ Some fault)
    ⊎ ((settings_fault region_log words (length live) ≡ None) × IsFirstObjectFault words live sizes fault)

-- these are the sizes of as many objects of a valid image
pub record AreOpaque (region_log allowance regions : ℕ) (live sizes : List ℕ) : Type 0 where
  pub valid : IsValid (opaque_image region_log allowance regions live sizes)
  pub count : length sizes ≡ length live
  pub sized : AreSizesOf (opaque_image region_log allowance regions live sizes) live sizes
