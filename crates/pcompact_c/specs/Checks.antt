-- The check of a heap by the handles of several threads.
use Rattle.std.specs.Prelude.{◌≡◌, ◌⊎◌, List, [], ◌∷◌, Option, Some, None, option_and_then}
use Rattle.image_streams.specs.declared.fault.Fault.{Fault}
use Rattle.image_streams.specs.declared.fault.Fault.TheVariants.{Length, Memory, Workers}
use Rattle.heap_image.specs.ImageText.{first_fault}
use Rattle.heap_image.specs.SharedCheck.{UncheckedHeap, bytes_of}
use Rattle.caller_heap.specs.Lent.{Lent}
use Rattle.caller_heap.specs.LentChecks.{HoldBlocks}
use Rattle.caller_heap.specs.declared.part.Origin.{Origin}
use Rattle.caller_heap.specs.declared.part.Part.{Part}
use Rattle.pcompact_c.specs.Handles.{Handle, HaveNoParts, origin_in}

-- the heap that is checked by a handle's part
abbrev pub checked_in : Handle → Option UncheckedHeap
checked_in handle = option_and_then (λ (part : Part). part.check) handle.2

-- it has a part in the check of this heap, whose words come from there
abbrev pub IsCheckHandleOf : UncheckedHeap → Origin → Handle → Type 0
IsCheckHandleOf heap origin handle = (checked_in handle ≡ Some heap) × (origin_in handle ≡ Some origin)

-- the heap that the first of these handles checks
abbrev pub first_checked : List Handle → Option UncheckedHeap
first_checked [] = None
first_checked (handle ∷ _) = checked_in handle

-- the handles have no part, and the words of the heap that the first of them checked are held
abbrev pub AreReleased : List Handle → List Handle → List Lent → Type 0
AreReleased before after words = HaveNoParts after × ((heap : UncheckedHeap) × (first_checked before ≡ Some heap) × HoldBlocks heap.blocks words)

-- It is the first fault of the heap that the handles check, or memory ran out. Otherwise they aren't those of one check, or the
-- words aren't as many regions as there.
abbrev pub IsWhyNotChecked : List Handle → Fault → Type 0
IsWhyNotChecked handles fault = ((heap : UncheckedHeap) × (first_checked handles ≡ Some heap) × (first_fault (bytes_of heap) ≡ Some fault))
    ⊎ ((fault ≡ Memory) ⊎ ((fault ≡ Workers) ⊎ (fault ≡ Length)))
