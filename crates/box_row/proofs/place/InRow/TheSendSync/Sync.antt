-- A `&` to it shows nothing.
use denote.Param.Send.{IsSync, part_keyless}
use Rattle.box_row.specs.contracts.place.InRow.{the_row}
use Rattle.box_row.proofs.place.InRow.TheSendSync.Send.{send}

pub sync : IsSync the_row
sync = record { shared = λ d b o κ q. part_keyless the_row send q d b o }
