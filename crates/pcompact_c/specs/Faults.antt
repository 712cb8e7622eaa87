-- Faults as numbers with their particulars.
use Rattle.std.specs.Prelude.{◌≡◌, ℕ, ◌<◌, ◌^◌, ⊤}
use Rattle.image_streams.specs.declared.fault.Fault.{Fault}
use Rattle.image_streams.specs.declared.fault.Fault.TheVariants.{TruncatedHeader, Magic, RegionLog, Length, TruncatedBody, LiveOrder, Header, Overlap, Reference, Trailing, Memory, Workers, Io, Schedule, Overwritten, Gate, Root}
use Rattle.pcompact_c.specs.declared.fault.PcompactFault.{PcompactFault}

-- the number of a fault in the formats
abbrev pub number_of : Fault → ℕ
number_of TruncatedHeader = 1
number_of Magic = 2
number_of RegionLog = 3
number_of Length = 4
number_of TruncatedBody = 5
number_of (LiveOrder _) = 6
number_of (Header _) = 7
number_of (Overlap _) = 8
number_of (Reference _ _) = 9
number_of Trailing = 10
number_of Memory = 11
number_of Workers = 12
number_of Io = 13
number_of (Schedule _) = 14
number_of (Overwritten _) = 15
number_of Gate = 16
number_of (Root _) = 17

-- the index, address, line or region that a fault names
abbrev pub place_of : Fault → ℕ
place_of (LiveOrder index) = index
place_of (Header address) = address
place_of (Overlap address) = address
place_of (Reference address _) = address
place_of (Schedule line) = line
place_of (Overwritten region) = region
place_of (Root index) = index
place_of _ = 0

-- the field that a fault names
abbrev pub field_of : Fault → ℕ
field_of (Reference _ field) = field
field_of _ = 0

-- an index or a region fits in 32 bits
abbrev pub Fits : Fault → Type 0
Fits (LiveOrder index) = index < 2 ^ 32
Fits (Overwritten region) = region < 2 ^ 32
Fits (Root index) = index < 2 ^ 32
Fits _ = ⊤

-- the C struct is this fault
pub record IsOf (fault : Fault) (c : PcompactFault) : Type 0 where
  pub number : c.number ≡ number_of fault
  pub place : c.place ≡ place_of fault
  pub field : c.field ≡ field_of fault

-- the C struct is a fault for this reason
abbrev pub IsFaultFor : (Fault → Type 0) → PcompactFault → Type 0
IsFaultFor why c = (fault : Fault) × IsOf fault c × why fault
