use Rattle.scheduler.specs.declared.event.Event.TheVariants.{Settle}
use Rattle.claim_board.specs.Rule.{settle_reply}
use Rattle.claim_board.specs.Slots.{slots, first_of_slot}
use Rattle.claim_board.proofs.calls.settle.Given as goal

abbrev pub ghosts-settle : goal.ghosts-settle
ghosts-settle a = record { moves = a.words.now.key.moves; workers = a.words.now.key.workers; event = Settle a.region; reply = settle_reply; slots = slots a.words.now.key; first = first_of_slot a.words.now.key }
