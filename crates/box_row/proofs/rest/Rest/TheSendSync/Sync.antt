-- A `&` to the rest of a row shows none of its values.
use denote.Param.Send.{IsSend, IsSync, part_keyless}
use denote.RattleType.{RattleType}
use Rattle.box_row.specs.contracts.rest.Rest.{the_row}
use Rattle.box_row.proofs.rest.Rest.TheSendSync.Send.{send}

pub sync : (T : RattleType) → IsSend T → IsSync (the_row T)
sync T s = record { shared = λ d b o κ q. part_keyless (the_row T) (send T s) q d b o }
