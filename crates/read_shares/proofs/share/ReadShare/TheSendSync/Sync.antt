-- A `&` to a share may be used from another thread where a `&` to its value may.
use denote.Builtin.{RawPtr}
use denote.Param.Send.{IsSync, struct_sync, sendable}
use denote.RattleType.{RattleType}
use denote.Struct.Owning.{shape, to}
use Rattle.std_alloc.proofs.SendSync.{seen}
use Rattle.read_shares.specs.ReadShare.{term}
use Rattle.read_shares.specs.contracts.share.ReadShare.{the_row, the_type}

pointer : IsSync RawPtr
pointer = search sendable

pub sync : (T : RattleType) → IsSync T → IsSync (the_row T)
sync T y = let O = the_type T in record { shared = λ d b o κ. ((struct_sync (shape O) (pointer, tt)).shared (to O d) b o κ, ((λ q. tt), seen T y d.at d.value (term d.origin))) }
