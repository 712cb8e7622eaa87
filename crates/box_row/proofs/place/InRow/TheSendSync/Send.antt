-- It owns nothing.
use denote.Param.Send.{IsSend, owning_send, struct_send}
use denote.Struct.Owning.{fields, shape, to}
use denote.Struct.Struct.{exits_of}
use Rattle.std_alloc.proofs.SendSync.{quiet}
use Rattle.box_row.specs.contracts.place.InRow.{the_row, the_type}

pub send : IsSend the_row
send = let O = the_type in owning_send O tt (λ d. tt) (λ k. quiet (to O) (exits_of k (fields O)) ((struct_send (shape O) tt).leaving k))
