-- A `&` to a right frees nothing.
use denote.Param.Send.{IsSync, part_keyless}
use denote.RattleType.{RattleType}
use Rattle.box_row.specs.contracts.right.Right.{the_row}
use Rattle.box_row.proofs.right.Right.TheSendSync.Send.{send}

pub sync : (T : RattleType) → IsSync (the_row T)
sync T = record { shared = λ d b o κ q. part_keyless (the_row T) (send T) q d b o }
