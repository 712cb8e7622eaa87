-- Parts in slides of opaque objects.
use Rattle.std.specs.Prelude.{◌≡◌, ◌⊎◌, List, ℕ, Option, Some, None, option_map, map}
use Rattle.object_heap.specs.HeapImage.{HeapImage}
use Rattle.image_streams.specs.declared.fault.Fault.{Fault}
use Rattle.image_streams.specs.declared.fault.Fault.TheVariants.{Length, Memory}
use Rattle.collector.specs.Sessions.{held_of}
use Rattle.collector.specs.Slides.{slid_regions}
use Rattle.collector.specs.declared.session.share.Share.{Share}
use Rattle.caller_heap.specs.Lent.{Lent, IsNotLent, content, held}
use Rattle.caller_heap.specs.Parts.{IsPartOf}
use Rattle.caller_heap.specs.declared.part.Origin.{Origin}
use Rattle.caller_heap.specs.declared.part.Part.{Part}

-- a part in the slide of opaque objects that lie where those of this image do, in regions with these words
abbrev pub IsSlidPart : HeapImage → List (List ℕ) → Origin → Part → Type 0
IsSlidPart image blocks origin part = IsPartOf image origin part × (option_map held_of part.share ≡ Some (Some blocks))

-- the image of the slide that a part has planned, if it has no share
abbrev pub planned_in : Option Share → Option HeapImage → Option HeapImage
planned_in None plan = plan
planned_in (Some share) plan = None

-- each region is held in its place, with its words once the live ones have slid
abbrev pub HoldSlid : HeapImage → List (List ℕ) → List Lent → Type 0
HoldSlid image blocks words = map content words ≡ map held (slid_regions image blocks)

-- What keeps a slide from beginning: memory runs out, the words aren't as many regions as the plan has, or not a region each, or
-- the workers or the memory of a region aren't right.
abbrev pub IsWhyNotSlid : Fault → Type 0
IsWhyNotSlid fault = (fault ≡ Memory) ⊎ ((fault ≡ Length) ⊎ IsNotLent fault)
