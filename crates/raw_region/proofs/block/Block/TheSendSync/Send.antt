-- A block may go to another thread: its words are numbers, and the C library frees from any thread.
use base.Shift.{Keyless}
use denote.Array.{Array}
use denote.Builtin.{u64}
use denote.Param.Send.{IsSend, AllSend, array_send, owning_send, struct_send, sendable}
use denote.Struct.Owning.{shape, fields, to}
use denote.Struct.Struct.{exits_of}
use Rattle.std.specs.Prelude.{Some, None}
use Rattle.std.proofs.Crossing.{frees}
use Rattle.core.specs.Allocator.{array_of}
use Rattle.std_alloc.proofs.SendSync.{lies, quiet}
use Rattle.raw_region.specs.Block.{Deed, right}
use Rattle.raw_region.specs.contracts.block.Block.{the_row, the_type}

word : IsSend u64
word = search sendable

freed : (deed : Deed) → Keyless (right deed)
freed (Some a) = frees.frees (record { memory = record { seal = tt } }) (array_of u64 a.1) a.0
freed None = tt

pub send : IsSend the_row
send =
    let O = the_type in let all : AllSend (fields O) = (search sendable, (search sendable, tt)) in
    owning_send O all (λ d. (tt, (lies (Array u64 d.len) (array_send u64 d.len word) d.at d.words, freed d.deed)))
    (λ k. quiet (to O) (exits_of k (fields O)) ((struct_send (shape O) all).leaving k))
