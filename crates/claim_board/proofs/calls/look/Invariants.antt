use Rattle.scheduler.specs.declared.event.Event.TheVariants.{Look}
use Rattle.claim_board.specs.Rule.{look_reply}
use Rattle.claim_board.specs.Slots.{slots, first_of_slot}
use Rattle.claim_board.proofs.calls.look.Given as goal

abbrev pub ghosts-look : goal.ghosts-look
ghosts-look a = record { moves = a.words.now.key.moves; workers = a.words.now.key.workers; event = Look a.region; reply = look_reply; slots = slots a.words.now.key; first = first_of_slot a.words.now.key }
