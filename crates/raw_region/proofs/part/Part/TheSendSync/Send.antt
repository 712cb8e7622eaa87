use denote.Param.Send.{IsSend}
use Rattle.raw_region.specs.contracts.part.Part.{the_row}
use Rattle.raw_region.proofs.Lemmas.RoomsSent.{part_send}

pub send : IsSend the_row
send = part_send
