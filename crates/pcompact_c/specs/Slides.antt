-- Handles of slides of opaque objects.
use Rattle.std.specs.Prelude.{◌≡◌, ◌⊎◌, ℕ, List, ◌++◌, ◌∷◌, [], Option, Some, option_map, option_and_then}
use Rattle.object_heap.specs.HeapImage.{HeapImage}
use Rattle.image_streams.specs.declared.fault.Fault.{Fault}
use Rattle.image_streams.specs.declared.fault.Fault.TheVariants.{Length, Memory, Workers}
use Rattle.mark_bitmap.specs.OpaqueObjects.{IsFirstFaultOf}
use Rattle.collector.specs.Sessions.{held_of}
use Rattle.caller_heap.specs.Slides.{planned_in}
use Rattle.caller_heap.specs.declared.part.Origin.{Origin}
use Rattle.caller_heap.specs.declared.part.Part.{Part}
use Rattle.pcompact_c.specs.Handles.{Handle, IsHandleOf, share_in}

-- the image of the slide that a handle has planned: its objects lie where the host's do
abbrev pub plan_in : Handle → Option HeapImage
plan_in handle = option_and_then (λ (part : Part). planned_in part.share part.slide) handle.2

-- the words that the regions of the handle's slide held when it began, if it is of a slide
abbrev pub held_in : Handle → Option (Option (List (List ℕ)))
held_in handle = option_map held_of (share_in handle)

-- it has a part in the slide of opaque objects that lie where those of this image do, in regions with these words
abbrev pub IsSlidHandle : HeapImage → List (List ℕ) → Origin → Handle → Type 0
IsSlidHandle image blocks origin handle = IsHandleOf image origin handle × (held_in handle ≡ Some (Some blocks))

-- the last of these handles
abbrev pub IsLast : Handle → List Handle → Type 0
IsLast last handles = (others : List Handle) × (handles ≡ others ++ last ∷ [])

-- the handle is held, there are not as many sizes as addresses, it is the first fault of the objects, or memory ran out
abbrev pub IsWhyNotPlanned : (region_log words : ℕ) (live sizes : List ℕ) → Fault → Type 0
IsWhyNotPlanned region_log words live sizes fault = (fault ≡ Workers) ⊎ ((fault ≡ Length) ⊎ ((fault ≡ Memory) ⊎ IsFirstFaultOf region_log words live sizes fault))
