use Rattle.std.proofs.Common.{◌≡◌, []}
use Rattle.claim_board.specs.Boards.{board_of, held}
use Rattle.claim_board.specs.RegionBoards.{identity}
use Rattle.execution_tests.proofs.recorded.fill_four.Given as goal

abbrev pub invariant-loop-region : goal.invariant-loop-region
invariant-loop-region g l = (board_of l.seat.pass ≡ identity l.heap.recorder.board) × (held l.seat.pass ≡ [])
