use Rattle.std.proofs.Common.{◌≡◌, ◌≤◌, ℕ}
use Rattle.std.specs.Prelude.{count_by}
use Rattle.scheduler.specs.History.{is_grant}
use Rattle.claim_board.specs.Boards.{board_of, worker, mine}
use Rattle.board_sweep.specs.Tallies.{AreTallies, completes}
use Rattle.board_sweep.proofs.sweeper.sweep.Given as goal

-- what was done in the regions so far, and nothing in the others
abbrev pub invariant-loop-region : goal.invariant-loop-region
invariant-loop-region g l = (board_of l.pass ≡ board_of l.fn.pass)
    × (worker l.pass ≡ worker l.fn.pass)
    × AreTallies l.region (mine l.pass) l.tallies.items
    × ((r : ℕ) → l.region ≤ r → count_by (is_grant r) (mine l.pass) ≡ 0)
    × ((r : ℕ) → l.region ≤ r → count_by (completes r) (mine l.pass) ≡ 0)
