use Rattle.scheduler.specs.declared.event.Event.TheVariants.{Poll}
use Rattle.claim_board.specs.Rule.{poll_reply}
use Rattle.claim_board.specs.Slots.{slots, first_of_slot}
use Rattle.claim_board.proofs.regions.region_board.RegionBoard.into_settled.Given as goal

abbrev pub ghosts-survey : goal.ghosts-survey
ghosts-survey a = record { moves = a.words.now.key.moves; workers = a.words.now.key.workers; event = Poll; reply = poll_reply; slots = slots a.words.now.key; first = first_of_slot a.words.now.key }
