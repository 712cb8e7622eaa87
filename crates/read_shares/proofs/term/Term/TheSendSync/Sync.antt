-- A `&` to a term shows nothing of what it owns.
use denote.Param.Send.{IsSync, part_keyless}
use Rattle.read_shares.specs.contracts.term.Term.{the_row}
use Rattle.read_shares.proofs.term.Term.TheSendSync.Send.{send}

pub sync : IsSync the_row
sync = record { shared = λ d b o κ q. part_keyless the_row send q d b o }
