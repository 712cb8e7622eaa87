-- Room may go to another thread: it owns no value, and the C library frees from any thread.
use base.Shift.{Keyless}
use mir.Syntax.{Ty}
use denote.Builtin.{u64}
use denote.Param.Send.{IsSend, AllSend, owning_send, struct_send, sendable}
use denote.RawPtr.{Ptr, block_ptr, null_ptr, room_for}
use denote.Struct.Owning.{shape, fields, to}
use denote.Struct.Struct.{exits_of}
use mir.Syntax.{w64, ty_int, ty_array}
use Rattle.std.specs.Prelude.{Some, None}
use Rattle.std.proofs.Crossing.{frees}
use Rattle.core.specs.Allocator.{array_of}
use Rattle.std_alloc.proofs.SendSync.{quiet}
use Rattle.raw_region.specs.Block.{Deed, right}
use Rattle.raw_region.specs.contracts.room.Room.{the_row, the_type}
use Rattle.raw_region.specs.contracts.part.Part as P

pub freed : (deed : Deed) → Keyless (right deed)
freed (Some a) = frees.frees (record { memory = record { seal = tt } }) (array_of u64 a.1) a.0
freed None = tt

roomy : (τ : Ty) (p : Ptr) → Keyless (room_for τ p)
roomy τ (block_ptr b o) = tt
roomy τ null_ptr = tt

pub room_send : IsSend the_row
room_send =
    let O = the_type in let all : AllSend (fields O) = (search sendable, (search sendable, tt)) in
    owning_send O all (λ d. (tt, (roomy (ty_array (ty_int w64) d.len) d.at, freed d.deed)))
    (λ k. quiet (to O) (exits_of k (fields O)) ((struct_send (shape O) all).leaving k))

-- a part may go where its room may
pub part_send : IsSend P.the_row
part_send =
    let O = P.the_type in let all : AllSend (fields O) = tt in
    owning_send O all (λ d. (tt, (roomy (ty_array (ty_int w64) d.len) d.at, freed None)))
    (λ k. quiet (to O) (exits_of k (fields O)) ((struct_send (shape O) all).leaving k))
