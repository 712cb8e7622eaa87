-- Handles of markings.
use Rattle.std.specs.Prelude.{◌≡◌, ◌⊎◌, ℕ, ◌^◌, ◌≤◌, true, List, length, map, Option, option_and_then}
use Rattle.std.specs.Int.{div_ceil}
use Rattle.object_heap.specs.HeapImage.{HeapImage, heap_words, size_at, is_unsound}
use Rattle.object_heap.specs.Reachable.{is_listed}
use Rattle.object_coding.specs.ObjectLayout.{coding_of}
use Rattle.object_coding.specs.declared.object_layout.ObjectLayout.{ObjectLayout}
use Rattle.coded_marking.specs.CodedHeap.{coded_image}
use Rattle.coded_marking.specs.Marking.{Marks}
use Rattle.image_streams.specs.declared.fault.Fault.{Fault}
use Rattle.image_streams.specs.declared.fault.Fault.TheVariants.{Header, Length, Workers}
use Rattle.mark_bitmap.specs.OpaqueObjects.{opaque_image}
use Rattle.caller_heap.specs.declared.part.Part.{Part}
use Rattle.caller_heap.specs.declared.settings.HeapSettings.{HeapSettings}
use Rattle.pcompact_c.specs.Faults.{IsFaultFor}
use Rattle.pcompact_c.specs.Handles.{Handle}
use Rattle.pcompact_c.specs.Layouts.{IsLayoutFault}
use Rattle.pcompact_c.specs.Slides.{IsWhyNotPlanned}
use Rattle.pcompact_c.specs.declared.fault.PcompactFault.{PcompactFault}

-- what the marking of a handle has marked
abbrev pub marking_in : Handle → Option Marks
marking_in handle = option_and_then (λ (part : Part). part.marking) handle.2

-- the heap of these words in this layout
abbrev pub heap_by : ObjectLayout → List ℕ → HeapImage
heap_by layout words = coded_image (coding_of layout (length words)) words

module _ (image : HeapImage) (addresses : List ℕ) where
  -- the image of the slide of the objects at these addresses
  abbrev pub slide_of : HeapSettings → HeapImage
  slide_of settings =
      opaque_image settings.region_log settings.allowance (div_ceil (heap_words image) (2 ^ settings.region_log)) addresses (map (size_at image) addresses)

  -- What keeps it from being planned: one of them has 2 ^ 32 words or more, or what keeps a slide of opaque objects.
  abbrev pub IsWhyMarkedNotPlanned : HeapSettings → Fault → Type 0
  IsWhyMarkedNotPlanned settings fault = ((a : ℕ) × (fault ≡ Header a) × (is_listed addresses a ≡ true) × (2 ^ 32 ≤ size_at image a))
      ⊎ IsWhyNotPlanned settings.region_log (heap_words image) addresses (map (size_at image) addresses) fault

-- What keeps a marking from going on: the layout, a handle without a marking, another number of words, or an object without a sound
-- header.
abbrev pub IsWhyNotMarked : ObjectLayout → List ℕ → PcompactFault → Type 0
IsWhyNotMarked layout words c = IsLayoutFault layout (length words) c ⊎ IsFaultFor (λ fault. (fault ≡ Workers) ⊎ ((fault ≡ Length)
    ⊎ ((a : ℕ) × (fault ≡ Header a) × (is_unsound (heap_by layout words) a ≡ true)))) c
