-- The text of an image, in bytes, and the first fault of a byte list.
use Rattle.image_streams.specs.Numbers.{numbers, u32_at, u64_at}
use Rattle.image_streams.specs.declared.fault.Fault.{Fault}
use Rattle.image_streams.specs.declared.fault.Fault.TheVariants.{TruncatedHeader, Magic, RegionLog, Length, TruncatedBody, LiveOrder, Header, Overlap, Reference, Trailing, Root}
use Rattle.object_heap.specs.Layout.{Own}
use Rattle.object_heap.specs.HeapImage.{HeapImage, IsValid, heap_words, reachable, roots_or}
use Rattle.object_heap.specs.ObjectFaults.{misplaced_index, misplaced_root, unsound_header, overlapping, dangling}
use Rattle.object_heap.specs.Version.{magic, has_roots, max_region_log, max_regions, max_words}
use Rattle.object_heap.specs.declared.version.Version.{Version}
use Rattle.object_heap.specs.declared.version.Version.TheVariants.{One, Two, Three}
use Rattle.std.specs.Int.{w32, w64, to_le_bytes}
use Rattle.std.specs.List.{range_with_len}
use Rattle.std.specs.Prelude.{◌≡◌, ℕ, ◌+◌, ◌*◌, ◌/◌, ◌%◌, ◌^◌, ◌<◌, Bool, true, false, not, ◌||◌, nat_lt, ◌==◌, if◌then◌else◌, List, [], ◌∷◌, ◌++◌, length, map, take, All, Option, None, Some, option_map}
use Rattle.std.specs.Str.{bytes_eq}

-- The first 32 bytes of a text. Numbers are little endian.
abbrev pub front : Version → (region_log count words allowance : ℕ) → List ℕ
front version region_log count words allowance = magic version
    ++ to_le_bytes w32 region_log
    ++ to_le_bytes w32 count
    ++ to_le_bytes w64 words
    ++ to_le_bytes w64 allowance

-- the front, the words, and the numbers after them, here those of the live list
abbrev pub listed_text : Version → HeapImage → List ℕ
listed_text version image = front version image.region_log (length image.live) (heap_words image) image.allowance
    ++ numbers image.words
    ++ numbers image.live

-- the image whose live list are the numbers after the words of a text: those of the live list, or of the roots
abbrev pub with_tail : HeapImage → HeapImage
with_tail image = record image { version = One; live = roots_or image.live image.roots; roots = None }

abbrev pub text : HeapImage → List ℕ
text image = listed_text image.version (with_tail image)

-- The image of a text of this version with these numbers after the words: in a version with roots they are the roots,
-- and the live objects are those reachable from them.
abbrev pub from_tail : Version → HeapImage → HeapImage
from_tail version image =
    if has_roots version
    then record image { version = version; live = reachable image image.live; roots = Some image.live }
    else image

-- the version whose magic these bytes are, or 1 if they are none
abbrev pub version_of_magic : List ℕ → Version
version_of_magic bytes =
    if bytes_eq bytes (magic Three) then Three else if bytes_eq bytes (magic Two) then Two else One

-- The fields of a byte list, whether or not the bytes are an image's text.
module _ (bytes : List ℕ) where
  abbrev pub encoded_region_log : ℕ
  encoded_region_log = u32_at bytes 8

  abbrev pub encoded_count : ℕ
  encoded_count = u32_at bytes 12

  abbrev pub encoded_version : Version
  encoded_version = version_of_magic (take 8 bytes)

  abbrev pub encoded_words : ℕ
  encoded_words = u64_at bytes 16

  abbrev pub encoded_region_words : ℕ
  encoded_region_words = 2 ^ encoded_region_log

  abbrev pub encoded_length : ℕ
  encoded_length = 32 + 8 * encoded_words + 8 * encoded_count

  abbrev pub encoded_numbers : HeapImage
  encoded_numbers = record {
    version = One;
    layout = Own;
    region_log = encoded_region_log;
    allowance = u64_at bytes 24;
    words = map (λ a. u64_at bytes (32 + 8 * a)) (range_with_len 0 encoded_words);
    live = map (λ i. u64_at bytes (32 + 8 * encoded_words + 8 * i)) (range_with_len 0 encoded_count);
    roots = None;
  }

  abbrev pub encoded_image : HeapImage
  encoded_image = from_tail encoded_version encoded_numbers

abbrev pub fault_if : Bool → Fault → Option Fault
fault_if true f = Some f
fault_if false f = None

abbrev pub first_some : {A : Type 0} → List (Option A) → Option A
first_some [] = None
first_some (None ∷ more) = first_some more
first_some (Some x ∷ more) = Some x

-- the faults of the front, each if its condition holds
abbrev pub front_faults : List ℕ → List (Option Fault)
front_faults bytes =
    fault_if (nat_lt (length bytes) 32) TruncatedHeader
    ∷ fault_if (not (bytes_eq (take 8 bytes) (magic (encoded_version bytes)))) Magic
    ∷ fault_if (nat_lt (encoded_region_log bytes) 3 || nat_lt (max_region_log (encoded_version bytes)) (encoded_region_log bytes)) RegionLog
    ∷ fault_if ((encoded_words bytes == 0) || not (encoded_words bytes % encoded_region_words bytes == 0)
    || nat_lt (max_words (encoded_version bytes)) (encoded_words bytes)
    || nat_lt (max_regions (encoded_version bytes)) (encoded_words bytes / encoded_region_words bytes)
    || nat_lt (encoded_words bytes) (encoded_count bytes)) Length
    ∷ []

-- the faults that need no word of the heap: those of the front, and too few bytes after it
abbrev pub layout_faults : List ℕ → List (Option Fault)
layout_faults bytes = front_faults bytes ++ (fault_if (nat_lt (length bytes) (encoded_length bytes)) TruncatedBody ∷ [])

-- the faults of the objects of a live list that is in order
abbrev pub object_faults : HeapImage → List (Option Fault)
object_faults image =
    option_map Header (unsound_header image)
    ∷ option_map Overlap (overlapping image)
    ∷ option_map (λ p. Reference p.0 p.1) (dangling image)
    ∷ []

abbrev pub first_object_fault : HeapImage → Option Fault
first_object_fault image = first_some (object_faults image)

-- The faults of the roots and the live list. In version 1 there are no roots, and in versions 2 and 3 the live list is
-- in order.
abbrev pub live_list_faults : HeapImage → List (Option Fault)
live_list_faults image =
    option_map Root (misplaced_root image)
    ∷ option_map LiveOrder (misplaced_index (heap_words image) image.live)
    ∷ object_faults image

-- each fault of a text, if its condition holds, in the order in which they are tested
abbrev pub faults : List ℕ → List (Option Fault)
faults bytes =
    layout_faults bytes
    ++ live_list_faults (encoded_image bytes)
    ++ (fault_if (nat_lt (encoded_length bytes) (length bytes)) Trailing ∷ [])

abbrev pub first_fault : List ℕ → Option Fault
first_fault bytes = first_some (faults bytes)

-- A text without a fault is that of a valid image, and the image is the one that the bytes encode.
abbrev pub FaultlessIsText : Type 0
FaultlessIsText = (bytes : List ℕ) → All (λ b. b < 256) bytes → first_fault bytes ≡ None
    → IsValid (encoded_image bytes) × (bytes ≡ text (encoded_image bytes))

-- The text of a valid image has no fault, and encodes that image.
abbrev pub TextIsFaultless : Type 0
TextIsFaultless = (image : HeapImage) → IsValid image
    → (first_fault (text image) ≡ None) × (encoded_image (text image) ≡ image)
