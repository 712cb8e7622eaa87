-- A `&` to a deed shows nothing of what it owns.
use denote.Param.Send.{Frees, IsSend, IsSync, part_keyless}
use denote.RattleType.{RattleType}
use Rattle.core.specs.declared.alloc.Allocator.{Ghosts}
use Rattle.read_shares.specs.contracts.deed.Deed.{the_row}
use Rattle.read_shares.proofs.deed.Deed.TheSendSync.Send.{send}

pub sync : (T A : RattleType) (g : Ghosts A.Denot) → IsSend T → IsSend A → Frees g g.dealloc_token → IsSync (the_row T A g)
sync T A g s sa f = record { shared = λ d b o κ q. part_keyless (the_row T A g) (send T A g s sa f) q d b o }
