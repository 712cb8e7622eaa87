-- What a host's handle owns, and what contracts see of it.
use Rattle.std.specs.Prelude.{◌≡◌, ◌≤◌, ◌⊎◌, ℕ, List, ◌++◌, ◌∷◌, [], All, Bool, false, Option, Some, None, length, map, option_map, option_and_then}
use Rattle.std.specs.Ptr.{Ptr}
use Rattle.std.specs.Coded.{coded_option}
use Rattle.std_heap.specs.contracts.GlobalAllocator.TheImpl.{ghosts}
use Rattle.std_alloc.specs.Box.Ownership.{box_owns}
use Rattle.image_streams.specs.declared.fault.Fault.{Fault}
use Rattle.image_streams.specs.declared.fault.Fault.TheVariants.{Length, Memory, Workers}
use Rattle.object_heap.specs.HeapImage.{HeapImage}
use Rattle.heap_image.specs.ImageText.{first_fault}
use Rattle.collector.specs.declared.session.share.Share.{Share}
use Rattle.collector.specs.Sessions.{image_of}
use Rattle.caller_heap.specs.declared.part.Origin.{Origin}
use Rattle.caller_heap.specs.declared.part.Part.{Part}
use Rattle.caller_heap.specs.contracts.part.Part.{the_row}
use base.Fml.{Fml, ftrue}
use base.Stored.{Coded}

-- how the logic stores a part, or none
abbrev pub parts_coded : Coded (Option the_row.Denot)
parts_coded = coded_option the_row.coded

-- the part, if any, in a box at this place
abbrev pub held : Ptr → Option the_row.Denot → Fml
held p (Some part) = box_owns (ghosts.dealloc_token (record { memory = record { seal = tt } })) the_row p part
held p None = ftrue

-- a handle as contracts see it: whether it is held, where its part is, and the part, if any
abbrev pub Handle : Type 0
Handle = Bool × Ptr × Option Part

-- the share of a handle's part
abbrev pub share_in : Handle → Option Share
share_in handle = option_and_then (λ (part : Part). part.share) handle.2

-- the image that the collection of a handle's part compacts
abbrev pub image_in : Handle → Option HeapImage
image_in handle = option_map image_of (share_in handle)

-- where the collection of a handle's part has its words
abbrev pub origin_in : Handle → Option Origin
origin_in handle = option_map (λ (part : Part). part.origin) handle.2

-- it has a part in the compaction of this image, whose words come from there
abbrev pub IsHandleOf : HeapImage → Origin → Handle → Type 0
IsHandleOf image origin handle = (image_in handle ≡ Some image) × (origin_in handle ≡ Some origin)

-- each has a part of a collection whose words come from there
abbrev pub AreFrom : Origin → List Handle → Type 0
AreFrom origin handles = All (λ h. origin_in h ≡ Some origin) handles

-- each has the part that it had, or none as before
abbrev pub HaveSameParts : List Handle → List Handle → Type 0
HaveSameParts before after = map (λ (h : Handle). h.2) after ≡ map (λ (h : Handle). h.2) before

-- none has a part
abbrev pub HaveNoParts : List Handle → Type 0
HaveNoParts handles = All (λ h. h.2 ≡ None) handles

-- each had a part of a collection whose words come from there, and has none
abbrev pub AreSpent : Origin → List Handle → List Handle → Type 0
AreSpent origin before after = AreFrom origin before × HaveNoParts after

-- they are 1 to 64, and none is held
abbrev pub AreReady : List Handle → Type 0
AreReady handles = (1 ≤ length handles) × (length handles ≤ 64) × All (λ h. h.0 ≡ false) handles

-- the image of the last of these handles
abbrev pub IsLastIn : HeapImage → List Handle → Type 0
IsLastIn image handles = (others : List Handle) × (last : Handle) × (handles ≡ others ++ last ∷ []) × (image_in last ≡ Some image)

-- there are not 1 to 64 handles or one is held, it is the first fault of the bytes of the image, or memory ran out
abbrev pub IsWhyNotBegun : List ℕ → Fault → Type 0
IsWhyNotBegun bytes fault = (fault ≡ Workers) ⊎ ((fault ≡ Memory) ⊎ (first_fault bytes ≡ Some fault))

-- the handles aren't those of one session that is ended so, the lists have other counts, or memory ran out
abbrev pub IsWhyNotEnded : Fault → Type 0
IsWhyNotEnded fault = (fault ≡ Workers) ⊎ ((fault ≡ Length) ⊎ (fault ≡ Memory))
