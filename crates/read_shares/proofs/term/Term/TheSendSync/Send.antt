-- A term may go to another thread, as all that it owns is a token.
use denote.Param.Send.{IsSend, owning_send, struct_send}
use denote.Struct.Owning.{fields, shape, to}
use denote.Struct.Struct.{exits_of}
use Rattle.std_alloc.proofs.SendSync.{quiet}
use Rattle.read_shares.specs.contracts.term.Term.{the_row, the_type}

pub send : IsSend the_row
send = owning_send the_type tt (λ d. tt) (λ k. quiet (to the_type) (exits_of k (fields the_type)) ((struct_send (shape the_type) tt).leaving k))
