use Rattle.scheduler.specs.declared.event.Event.TheVariants.{Complete}
use Rattle.claim_board.specs.Rule.{complete_reply}
use Rattle.claim_board.specs.Slots.{slots, first_of_slot}
use Rattle.claim_board.proofs.calls.complete.Given as goal

abbrev pub ghosts-complete : goal.ghosts-complete
ghosts-complete a = record { moves = a.words.now.key.moves; workers = a.words.now.key.workers; event = Complete a.region; reply = complete_reply; slots = slots a.words.now.key; first = first_of_slot a.words.now.key }
