use Rattle.std.proofs.Common.{length, map, replicate}
use Rattle.scheduling_tests.proofs.cleared_boards.cleared_board_of.Given as goal

abbrev pub ghosts-new : goal.ghosts-new
ghosts-new a = record { words = map (λ ws. replicate (length ws) 0) a.regions.items }
