use denote.Param.Send.{IsSend}
use Rattle.raw_region.specs.contracts.room.Room.{the_row}
use Rattle.raw_region.proofs.Lemmas.RoomsSent.{room_send}

pub send : IsSend the_row
send = room_send
