use Rattle.scheduler.proofs.Lemmas.Indexes.{ArePlacesUpTo}
use Rattle.scheduler.proofs.moves.indexed_moves.reader_places.Given as goal

abbrev pub invariant-loop-place : goal.invariant-loop-place
invariant-loop-place l = ArePlacesUpTo l.moves l.place l.readers.items
