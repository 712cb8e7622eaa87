use Rattle.scheduler.specs.declared.event.Event.TheVariants.{Drain}
use Rattle.claim_board.specs.Rule.{drain_reply}
use Rattle.claim_board.specs.Slots.{slots, first_of_slot}
use Rattle.claim_board.proofs.calls.drain.Given as goal

abbrev pub ghosts-drain : goal.ghosts-drain
ghosts-drain a = record { moves = a.words.now.key.moves; workers = a.words.now.key.workers; event = Drain a.destination a.source; reply = drain_reply; slots = slots a.words.now.key; first = first_of_slot a.words.now.key }
