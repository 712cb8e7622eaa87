-- A `&` to a room shows nothing of what it owns.
use denote.Param.Send.{IsSync, part_keyless}
use Rattle.raw_region.specs.contracts.room.Room.{the_row}
use Rattle.raw_region.proofs.Lemmas.RoomsSent.{room_send}

pub sync : IsSync the_row
sync = record { shared = λ d b o κ q. part_keyless the_row room_send q d b o }
