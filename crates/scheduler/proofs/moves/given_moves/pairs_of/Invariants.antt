use Rattle.std.proofs.Common.{◌≡◌}
use Rattle.scheduler.specs.MoveTable.{pairs_before}
use Rattle.scheduler.proofs.moves.given_moves.pairs_of.Given as goal

abbrev pub invariant-loop-destination : goal.invariant-loop-destination
invariant-loop-destination g l = l.pairs.items ≡ pairs_before (g.M.Moves.table l.moves) l.destination 0
