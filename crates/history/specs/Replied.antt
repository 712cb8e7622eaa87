-- The replies of the word machine to a schedule.
use Rattle.std.specs.Prelude.{◌≡◌, ◌↔◌, Bool, IsTrue, List, map}
use Rattle.object_heap.specs.HeapImage.{HeapImage}
use Rattle.scheduler.specs.State.{AllAreSettled}
use Rattle.scheduler.specs.ImageMoves.{image_table}
use Rattle.scheduler.specs.Schedule.{ScheduleView, line_of, schedule_of}
use Rattle.history.specs.WordMachine.{machine_of}
use Rattle.history.specs.Replay.{IsReplay}
use Rattle.scheduler.specs.declared.entry.Entry.{Entry}
use Rattle.scheduler.specs.declared.schedule.line.Line.{Line}
use Rattle.history.specs.declared.machine.replied.Replied.{Replied}

-- the word machine takes all lines; the lines with its replies, and whether all regions to be filled are settled
pub record AreReplies (image : HeapImage) (v : ScheduleView) (lines : List Line) (settled : Bool) : Type 0 where
  pub log : List Entry
  pub taken : IsReplay image v.workers v.lines log
  pub replies : lines ≡ map line_of log
  pub tells : IsTrue settled ↔ AllAreSettled (image_table image) (machine_of image log).known

-- the same, where the lines are a schedule
pub record IsReplied (image : HeapImage) (v : ScheduleView) (replied : Replied) : Type 0 where
  pub log : List Entry
  pub taken : IsReplay image v.workers v.lines log
  pub lines : replied.lines ≡ schedule_of v.workers log
  pub tells : IsTrue replied.is_settled ↔ AllAreSettled (image_table image) (machine_of image log).known
