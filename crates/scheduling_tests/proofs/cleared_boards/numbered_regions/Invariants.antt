use Rattle.std.proofs.Common.{◌≡◌, length}
use Rattle.scheduling_tests.proofs.cleared_boards.numbered_regions.Given as goal

abbrev pub invariant-loop-region : goal.invariant-loop-region
invariant-loop-region l = length l.regions.items ≡ l.region
