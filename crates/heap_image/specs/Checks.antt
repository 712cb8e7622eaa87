-- What a check for faults answers, and what is found in a heap before its objects are checked.
use Rattle.std.specs.Prelude.{◌≡◌, ℕ, ◌<◌, ◌⊎◌, Bool, IsTrue, List, All, Option, None, Some, Result, OnOk, IfErr, option_map}
use Rattle.image_streams.specs.declared.fault.Fault.{Fault}
use Rattle.image_streams.specs.declared.fault.Fault.TheVariants.{Memory}
use Rattle.heap_marking.specs.Soundness.{AreWellFormed}
use Rattle.object_heap.specs.Bits.{MarkBegins}
use Rattle.object_heap.specs.HeapImage.{HeapImage, heap_words, with_live}
use Rattle.object_heap.specs.declared.version.Version.{Version}
use Rattle.heap_image.specs.ImageText.{first_some, from_tail, first_object_fault, live_list_faults}
use Rattle.heap_image.specs.declared.check.unchecked.Found.{Found}

-- memory ran out, or this is the first fault
abbrev pub IsMemoryOr : Option Fault → Fault → Type 0
IsMemoryOr first fault = (fault ≡ Memory) ⊎ (first ≡ Some fault)

-- the first fault of the roots or the live list of a text of this version with these numbers after the words
abbrev pub first_in_tail : Version → HeapImage → List ℕ → Option Fault
first_in_tail version heap tail = first_some (live_list_faults (from_tail version (with_live heap tail)))

-- the result is `Ok` only where there is no fault, and otherwise the first one
pub record Reports {A : Type 0} (result : Result A Fault) (first : Option Fault) : Type 0 where
  pub ok : OnOk result (first ≡ None)
  pub fault : IfErr result (λ fault. first ≡ Some fault)

-- the same, unless memory runs out
pub record MayReport {A : Type 0} (result : Result A Fault) (first : Option Fault) : Type 0 where
  pub ok : OnOk result (first ≡ None)
  pub fault : IfErr result (IsMemoryOr first)

-- These objects lie in the heap, and the bits mark them. If they are said to be well-formed, they are.
pub record AreSeen (heap : HeapImage) (live bits : List ℕ) (known : Bool) : Type 0 where
  pub inside : All (λ a. a < heap_words heap) live
  pub begins : MarkBegins live (heap_words heap) bits
  pub well_formed : IsTrue known → AreWellFormed (with_live heap live)

-- the live objects and the roots are those of a text of this version with these numbers after the words, and only faults of
-- the objects are left
pub record AreOfTail (heap : HeapImage) (version : Version) (tail : List ℕ) (found : Found) : Type 0 where
  pub live : found.live.items ≡ (from_tail version (with_live heap tail)).live
  pub roots : option_map (λ v. v.items) found.roots ≡ (from_tail version (with_live heap tail)).roots
  pub seen : AreSeen heap found.live.items found.begins found.well_formed
  pub ordered : first_in_tail version heap tail ≡ first_object_fault (with_live heap found.live.items)
