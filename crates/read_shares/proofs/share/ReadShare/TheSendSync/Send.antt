-- A share may go to another thread where a `&` to its value may.
use denote.Builtin.{RawPtr}
use denote.Param.Send.{IsSend, IsSync, owning_send, struct_send, sendable}
use denote.RattleType.{RattleType}
use denote.Struct.Owning.{fields, shape, to}
use denote.Struct.Struct.{exits_of}
use Rattle.std_alloc.proofs.SendSync.{quiet, seen}
use Rattle.read_shares.specs.ReadShare.{term}
use Rattle.read_shares.specs.contracts.share.ReadShare.{the_row, the_type}

pointer : IsSend RawPtr
pointer = search sendable

pub send : (T : RattleType) → IsSync T → IsSend (the_row T)
send T y =
    let O = the_type T in
    owning_send O (pointer, tt) (λ d. ((tt, seen T y d.at d.value (term d.origin)), λ _. tt))
    (λ k. quiet (to O) (exits_of k (fields O)) ((struct_send (shape O) (pointer, tt)).leaving k))
