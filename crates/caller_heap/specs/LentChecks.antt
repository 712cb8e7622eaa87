-- Words that a host lends while their live objects are checked.
use Rattle.std.specs.Prelude.{◌≡◌, Some, List, ℕ, map}
use Rattle.object_heap.specs.declared.version.Version.{Version}
use Rattle.heap_image.specs.SharedCheck.{UncheckedHeap}
use Rattle.caller_heap.specs.Lent.{Lent, content, held, words_in}
use Rattle.caller_heap.specs.declared.part.Origin.{Origin}
use Rattle.caller_heap.specs.declared.part.Part.{Part}
use Rattle.caller_heap.specs.declared.settings.HeapSettings.{HeapSettings}

-- the heap in these words, a region each, with these live addresses or roots
abbrev pub heap_of_lent : Version → HeapSettings → List Lent → List ℕ → UncheckedHeap
heap_of_lent version settings words tail =
    record { version = version; region_log = settings.region_log; allowance = settings.allowance; blocks = map words_in words; tail = tail }

-- each block is held in its place
abbrev pub HoldBlocks : List (List ℕ) → List Lent → Type 0
HoldBlocks blocks words = map content words ≡ map held blocks

-- a part in the check of this heap, whose words come from there
abbrev pub IsCheckPartOf : UncheckedHeap → Origin → Part → Type 0
IsCheckPartOf heap origin part = (part.check ≡ Some heap) × (part.origin ≡ origin)
