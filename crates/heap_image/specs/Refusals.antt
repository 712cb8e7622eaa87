-- Which faults reading returns for an input, and what it leaves of the input.
use Rattle.std.specs.Prelude.{◌≡◌, ℕ, ◌+◌, ◌<◌, List, [], drop, length, Option, Some, None, IfSome, ◌⊎◌}
use Rattle.image_streams.specs.declared.fault.Fault.{Fault}
use Rattle.image_streams.specs.declared.fault.Fault.TheVariants.{TruncatedHeader, Magic, RegionLog, Length, TruncatedBody, LiveOrder, Header, Overlap, Reference, Trailing, Memory, Io, Root, Workers, Schedule, Overwritten, Gate}
use Rattle.heap_image.specs.ImageText.{first_fault, first_some, front_faults, encoded_length}

-- memory ran out, the device failed, or this is the first fault of the input
abbrev pub IsReason : List ℕ → Fault → Type 0
IsReason input fault = (fault ≡ Memory) ⊎ ((fault ≡ Io) ⊎ (first_fault input ≡ Some fault))

-- All faults that reading an image may return: those of its bytes, memory, and the device's.
abbrev pub IsOfReading : Fault → Type 0
IsOfReading Workers = ⊥
IsOfReading (Schedule line) = ⊥
IsOfReading (Overwritten r) = ⊥
IsOfReading Gate = ⊥
IsOfReading _ = Unit {0}

-- What is left after a fault: all after the front if it is the front's; all after the text if it is the live list's or
-- the roots', and one byte less for a trailing byte; nothing if there are too few bytes; and otherwise some rest.
abbrev pub LeavesRest : Fault → List ℕ → Option (List ℕ) → Type 0
LeavesRest TruncatedHeader input left = left ≡ Some []
LeavesRest Magic input left = left ≡ Some (drop 32 input)
LeavesRest RegionLog input left = left ≡ Some (drop 32 input)
LeavesRest Length input left = left ≡ Some (drop 32 input)
LeavesRest TruncatedBody input left = left ≡ Some []
LeavesRest (LiveOrder i) input left = left ≡ Some (drop (encoded_length input) input)
LeavesRest (Header a) input left = left ≡ Some (drop (encoded_length input) input)
LeavesRest (Overlap a) input left = left ≡ Some (drop (encoded_length input) input)
LeavesRest (Reference a f) input left = left ≡ Some (drop (encoded_length input) input)
LeavesRest (Root i) input left = left ≡ Some (drop (encoded_length input) input)
LeavesRest Trailing input left = left ≡ Some (drop (encoded_length input + 1) input)
LeavesRest _ input left = (n : ℕ) × (left ≡ Some (drop n input))

-- An input is refused for this fault. Memory is allocated only once a byte after a front without fault has arrived.
pub record IsRefusal (before after : Option (List ℕ)) (fault : Fault) : Type 0 where
  -- this holds even if the input is not known
  pub kind : IsOfReading fault
  pub reason : IfSome before (λ input. IsReason input fault)
  pub left : IfSome before (λ input. LeavesRest fault input after)
  pub memory : fault ≡ Memory → IfSome before (λ input. (32 < length input) × (first_some (front_faults input) ≡ None))

-- a fault of the numbers in a front of 32 bytes
abbrev pub IsOfFront : Fault → Type 0
IsOfFront Magic = Unit {0}
IsOfFront RegionLog = Unit {0}
IsOfFront Length = Unit {0}
IsOfFront _ = ⊥

-- the first fault of a front of 32 bytes
pub record IsFaultOfFront (bytes : List ℕ) (fault : Fault) : Type 0 where
  pub first : first_some (front_faults bytes) ≡ Some fault
  pub kind : IsOfFront fault
