use Rattle.claim_board.specs.Places.{AreAllReadersIn}
use Rattle.claim_board.proofs.regions.listing.readers_of.Given as goal

abbrev pub invariant-loop-place : goal.invariant-loop-place
invariant-loop-place l = AreAllReadersIn l.moves l.place l.readers.items
