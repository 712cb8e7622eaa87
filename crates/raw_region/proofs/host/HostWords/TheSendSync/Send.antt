-- A host's words may go to another thread, as a block may.
use mathlib.Core.Bool.{Bool, true, false}
use mathlib.Core.List.{List}
use Prim.Native.Nat.{ℕ}
use base.Shift.{Keyless}
use denote.Array.{Array}
use denote.Builtin.{u64}
use denote.RawPtr.{Ptr}
use denote.Struct.Struct.{exits_of}
use denote.Struct.Owning.{shape, fields, to}
use denote.Param.Send.{IsSend, AllSend, array_send, owning_send, struct_send, fixed_send, sendable}
use Rattle.std_alloc.proofs.SendSync.{quiet, lies}
use Rattle.raw_region.specs.Block.{held_block}
use Rattle.raw_region.specs.declared.host.HostWords as Declared
use Rattle.raw_region.specs.declared.host.HostWords.TheView as view
use Rattle.raw_region.specs.contracts.host.HostWords.TheInside as Inside
use Rattle.raw_region.specs.contracts.host.HostWords.{the_row}

word : IsSend u64
word = search sendable

keyless : (t : Bool) (p : Ptr) (n : ℕ) (ws : List ℕ) → Keyless (held_block t p n ws)
keyless true p n ws = (tt, (lies (Array u64 n) (array_send u64 n word) p ws, tt))
keyless false p n ws = tt

inside : IsSend Inside.the_row
inside =
    let O = Inside.the_type in let all : AllSend (fields O) = search sendable in
    owning_send O all (λ d. keyless d.is_held d.at d.len d.words) (λ k. quiet (to O) (exits_of k (fields O)) ((struct_send (shape O) all).leaving k))

pub send : IsSend the_row
send = fixed_send Inside.the_row Declared.HostWords Declared.the_code view.inverse view.view view.invariant inside
