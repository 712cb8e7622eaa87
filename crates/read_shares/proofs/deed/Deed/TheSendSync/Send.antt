-- A deed may go to another thread where its value and its allocator may.
use base.Fml.{ftrue}
use base.Shift.{Keyless}
use mir.Raw.{raw}
use denote.Builtin.{RawPtr}
use denote.Memory.{lone}
use denote.Param.Send.{IsSend, Frees, owning_send, struct_send, sendable}
use denote.RattleType.{RattleType}
use denote.RawPtr.{Ptr, block_ptr, in_block, null_ptr}
use denote.Struct.Owning.{fields, shape, to}
use denote.Struct.Struct.{exits_of}
use Rattle.core.specs.declared.alloc.Allocator.{Ghosts}
use Rattle.std_alloc.proofs.SendSync.{lies, quiet}
use Rattle.read_shares.specs.contracts.deed.Deed.{the_row, the_type}

pointer : IsSend RawPtr
pointer = search sendable

placed : (p : Ptr) → Keyless (in_block p ftrue)
placed (block_ptr b o) = tt
placed null_ptr = tt

pub send : (T A : RattleType) (g : Ghosts A.Denot) → IsSend T → IsSend A → Frees g g.dealloc_token → IsSend (the_row T A g)
send T A g s sa f =
    let O = the_type T A g in
    owning_send O (pointer, (sa, tt)) (λ d. (lies T s d.at d.value, (f.frees d.alloc (raw (lone T.mir)) d.at, placed d.at)))
    (λ k. quiet (to O) (exits_of k (fields O)) ((struct_send (shape O) (pointer, (sa, tt))).leaving k))
