use Rattle.scheduler.specs.declared.event.Event.TheVariants.{Claim}
use Rattle.claim_board.specs.Rule.{claim_reply}
use Rattle.claim_board.specs.Slots.{slots, first_of_slot}
use Rattle.claim_board.proofs.calls.claim.Given as goal

abbrev pub ghosts-claim : goal.ghosts-claim
ghosts-claim a = record { moves = a.words.now.key.moves; workers = a.words.now.key.workers; event = Claim a.region; reply = claim_reply; slots = slots a.words.now.key; first = first_of_slot a.words.now.key }
