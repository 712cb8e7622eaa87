use Rattle.std.proofs.Common.{◌≡◌}
use Rattle.claim_board.specs.Boards.{identity, board_of}
use Rattle.scheduling_tests.proofs.tickets.note.Given as goal

abbrev pub invariant-loop-region : goal.invariant-loop-region
invariant-loop-region l = board_of l.notes.watch ≡ identity l.board
