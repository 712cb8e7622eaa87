-- What the grant of a region says, at that moment and later.
use Rattle.std.specs.Prelude.{◌≡◌, ℕ, false, List}
use Rattle.scheduler.specs.declared.entry.Entry.{Entry}
use Rattle.scheduler.specs.MoveTable.{MoveTable}
use Rattle.scheduler.specs.State.{is_pending}
use Rattle.scheduler.specs.History.{BeginsWith, IsLegal, state_of}

-- The region has no pending readers after this history, nor after any legal history that begins with it.
pub record IsGranted (m : MoveTable) (workers region : ℕ) (seen : List Entry) : Type 0 where
  pub now : (d : ℕ) → is_pending m (state_of seen) d region ≡ false
  pub later : (log : List Entry) → IsLegal m workers log → BeginsWith log seen → (d : ℕ) → is_pending m (state_of log) d region ≡ false
