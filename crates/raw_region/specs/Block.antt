-- What a block owns, and what a `&` to it lends.
use Rattle.std.specs.Prelude.{ℕ, ◌^◌, List, Bool, true, false, Option, Some, None}
use Rattle.std.specs.Borrow.{full_share, u64, Array}
use Rattle.std.specs.Ptr.{Ptr, lies_at}
use denote.RawPtr.{room_for}
use Rattle.std_heap.specs.contracts.GlobalAllocator.TheImpl.{ghosts}
use Rattle.core.specs.Allocator.{array_of}
use mir.Syntax.{Ty, w64, ty_int, ty_array}
use base.Fml.{Fml, Lft, ftrue, fsep, flt}
use denote.Sharing.{said, beside}
use denote.Struct.Lending.{lent_at}

-- the right to free what the allocator gave for a τ at p, which is the same through each handle to it
abbrev pub may_free : Ty → Ptr → Fml
may_free = ghosts.dealloc_token (record { memory = record { seal = tt } })

-- an allocation of so many words at a place, which a block may have the right to free
abbrev pub Deed : Type 0
Deed = Option (Ptr × ℕ)

-- that right, where there is one
abbrev pub right : Deed → Fml
right (Some a) = may_free (array_of u64 a.1) a.0
right None = ftrue

-- their bytes are fewer than 2 ^ 63
abbrev pub is_length : ℕ → Fml
is_length n = flt n (2 ^ 60)

-- n words ws at p, and the right to free an allocation, or none
abbrev pub block_owns : Deed → Ptr → ℕ → List ℕ → Fml
block_owns deed p n ws = fsep (is_length n) (fsep (lies_at (Array u64 n) full_share p ws) (right deed))

-- room for n words at p, and the right to free an allocation, or none
abbrev pub room_owns : Deed → Ptr → ℕ → Fml
room_owns deed p n = fsep (is_length n) (fsep (room_for (ty_array (ty_int w64) n) p) (right deed))

-- the words of a host, where it has some: nobody here may free them
abbrev pub held_block : Bool → Ptr → ℕ → List ℕ → Fml
held_block true p n ws = block_owns None p n ws
held_block false p n ws = ftrue

-- for the lifetime κ, the same words to read
abbrev pub block_shares : Ptr → ℕ → List ℕ → Lft → Fml
block_shares p n ws = beside (said (is_length n)) (lent_at (Array u64 n) p ws)
