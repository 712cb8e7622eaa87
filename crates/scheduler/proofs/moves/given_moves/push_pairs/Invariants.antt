use Rattle.std.proofs.Common.{◌≡◌, ◌-◌}
use Rattle.scheduler.specs.MoveTable.{pairs_before, region_count}
use Rattle.scheduler.proofs.moves.given_moves.push_pairs.Given as goal

abbrev pub invariant-loop-source : goal.invariant-loop-source
invariant-loop-source g l = l.pairs.items ≡ pairs_before (g.M.Moves.table l.moves) l.destination l.from

abbrev pub decreases-loop-source : goal.decreases-loop-source
decreases-loop-source g l = region_count (g.M.Moves.table l.moves) - l.from
