-- A worker after its sweep.
use Rattle.std.specs.Prelude.{◌≡◌, ℕ, Bool, ◌==◌, List}
use Rattle.scheduler.specs.MoveTable.{MoveTable, region_count}
use Rattle.scheduler.specs.State.{unsettled}
use Rattle.scheduler.specs.History.{IsLegal, calls_by, state_of}
use Rattle.scheduler.specs.declared.entry.Entry.{Entry}
use Rattle.claim_board.specs.declared.board.Board.{Board}
use Rattle.claim_board.specs.Boards.{moves, identity, board_of, worker, mine}
use Rattle.board_sweep.specs.declared.sweeper.Swept.{Swept}
use Rattle.board_sweep.specs.Tallies.{AreTallies}

-- the worker with this number has swept, and its tallies count its own calls
pub record IsSweptBy (of : Board) (number : ℕ) (swept : Swept) : Type 0 where
  pub board : board_of swept.pass ≡ identity of
  pub worker : Rattle.claim_board.specs.Boards.worker swept.pass ≡ number
  pub tallies : AreTallies (region_count (moves of)) (mine swept.pass) swept.tallies.items

-- There is a legal history of two workers that consists of these calls of the first and these of the second, and the
-- flag says whether all regions to be filled are settled after it.
pub record IsOutcome (m : MoveTable) (first second : List Entry) (settled : Bool) : Type 0 where
  pub history : List Entry
  pub legal : IsLegal m 2 history
  pub first_calls : calls_by 0 history ≡ first
  pub second_calls : calls_by 1 history ≡ second
  pub outcome : settled ≡ (unsettled m (state_of history) == 0)
