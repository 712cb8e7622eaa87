-- A handle may go to another thread, as a part may.
use base.Shift.{Keyless}
use mir.Raw.{raw}
use denote.Memory.{lone}
use denote.RawPtr.{Ptr}
use denote.Struct.Struct.{exits_of}
use denote.Struct.Owning.{shape, fields, to}
use denote.Param.Send.{IsSend, AllSend, owning_send, struct_send, fixed_send, sendable}
use Rattle.std.specs.Prelude.{Option, Some, None}
use Rattle.std.proofs.Crossing as heap
use Rattle.std_alloc.proofs.SendSync.{quiet, lies}
use Rattle.caller_heap.specs.contracts.part.Part as Part
use Rattle.pcompact_c.proofs.Lemmas.Crossing.{part_send}
use Rattle.pcompact_c.specs.Handles.{held}
use Rattle.pcompact_c.specs.declared.handle.PcompactHandle as Declared
use Rattle.pcompact_c.specs.declared.handle.PcompactHandle.TheView as view
use Rattle.pcompact_c.specs.contracts.handle.PcompactHandle.TheInside as Inside
use Rattle.pcompact_c.specs.contracts.handle.PcompactHandle.{the_row}

keyless : (p : Ptr) (part : Option Part.the_row.Denot) → Keyless (held p part)
keyless p (Some x) = (lies Part.the_row part_send p x, heap.frees.frees (record { memory = record { seal = tt } }) (raw (lone Part.the_row.mir)) p)
keyless p None = tt

inside : IsSend Inside.the_row
inside =
    let O = Inside.the_type in let all : AllSend (fields O) = search sendable in
    owning_send O all (λ d. keyless d.at d.part) (λ k. quiet (to O) (exits_of k (fields O)) ((struct_send (shape O) all).leaving k))

pub send : IsSend the_row
send = fixed_send Inside.the_row Declared.PcompactHandle Declared.the_code view.inverse view.view view.invariant inside
