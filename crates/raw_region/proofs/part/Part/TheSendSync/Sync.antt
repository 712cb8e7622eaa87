-- A `&` to a part shows nothing of what it owns.
use denote.Param.Send.{IsSync, part_keyless}
use Rattle.raw_region.specs.contracts.part.Part.{the_row}
use Rattle.raw_region.proofs.Lemmas.RoomsSent.{part_send}

pub sync : IsSync the_row
sync = record { shared = λ d b o κ q. part_keyless the_row part_send q d b o }
