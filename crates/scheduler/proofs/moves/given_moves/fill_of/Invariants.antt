use Rattle.std.proofs.Common.{◌≡◌, take}
use Rattle.scheduler.proofs.moves.given_moves.fill_of.Given as goal

abbrev pub invariant-loop-region : goal.invariant-loop-region
invariant-loop-region g l = l.fill.items ≡ take l.region (g.M.Moves.table l.moves).fill
