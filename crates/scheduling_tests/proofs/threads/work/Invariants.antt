use Rattle.std.proofs.Common.{◌≡◌}
use Rattle.claim_board.specs.Boards.{identity, board_of}
use Rattle.scheduling_tests.proofs.threads.work.Given as goal

abbrev pub invariant-loop : goal.invariant-loop
invariant-loop l = board_of l.pass ≡ identity l.board
