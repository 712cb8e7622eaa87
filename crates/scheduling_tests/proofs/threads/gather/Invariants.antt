use Rattle.std.proofs.Common.{◌≡◌, All, vec_len}
use Rattle.claim_board.specs.Boards.{identity, board_of, AllOf}
use Rattle.scheduling_tests.proofs.threads.gather.Given as goal

abbrev pub invariant-loop-worker : goal.invariant-loop-worker
invariant-loop-worker l = All (λ w. board_of w.pass ≡ identity l.board) l.workers.items × AllOf (identity l.board) l.passes.items

abbrev pub decreases-loop-worker : goal.decreases-loop-worker
decreases-loop-worker l = vec_len l.workers
