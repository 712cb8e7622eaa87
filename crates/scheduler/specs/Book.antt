-- The invariant of a book.
use Rattle.std.specs.Prelude.{◌≡◌, ℕ, ◌≤◌, List, map}
use Rattle.scheduler.specs.MoveTable.{MoveTable, IsMoveTable}
use Rattle.scheduler.specs.History.{state_of, IsLegal}
use Rattle.scheduler.specs.Scheduler.{SchedulerView, state_in}
use Rattle.scheduler.specs.Schedule.{line_of, entries_of}
use Rattle.scheduler.specs.declared.entry.Entry.{Entry}
use Rattle.scheduler.specs.declared.schedule.line.Line.{Line}

-- What contracts see of a book: its moves and its calls, oldest first.
pub record BookView : Type 0 where
  pub workers : ℕ
  pub moves : MoveTable
  pub log : List Entry

-- The list is legal for the moves and leads to the scheduler's state.
pub record IsKeptBook (scheduler : SchedulerView) (lines : List Line) : Type 0 where
  pub some : 1 ≤ scheduler.workers
  pub few : scheduler.workers ≤ 64
  pub table : IsMoveTable scheduler.moves
  pub replies : lines ≡ map line_of (entries_of lines)
  pub legal : IsLegal scheduler.moves scheduler.workers (entries_of lines)
  pub leads : state_in scheduler ≡ state_of (entries_of lines)
