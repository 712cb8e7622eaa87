use Rattle.std.proofs.Common.{◌≡◌, ℕ, ◌<◌, length}
use Rattle.std.specs.Prelude.{slice_index}
use Rattle.scheduler.specs.MoveTable.{IsFirstPlace}
use Rattle.scheduler.proofs.moves.indexed_moves.first_places.Given as goal

abbrev pub invariant-loop-destination : goal.invariant-loop-destination
invariant-loop-destination l = record {
  room : length l.first.items ≡ l.destination;
  each : (d : ℕ) → d < l.destination → IsFirstPlace l.moves.pairs d 0 (slice_index l.first.items d);
  next : IsFirstPlace l.moves.pairs l.destination 0 l.place;
}
