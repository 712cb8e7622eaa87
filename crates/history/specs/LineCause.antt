-- Why the word machine refuses a line of a schedule.
use Rattle.std.specs.Prelude.{◌≡◌, ◌≢◌, ℕ, Some}
use Rattle.object_heap.specs.HeapImage.{HeapImage}
use Rattle.scheduler.specs.History.{entry}
use Rattle.scheduler.specs.Schedule.{ScheduleView}
use Rattle.scheduler.specs.ImageMoves.{image_table}
use Rattle.history.specs.Slide.{Machine, IsMachineStep}
use Rattle.history.specs.WordMachine.{image_slide, machine_of}
use Rattle.history.specs.Replay.{IsRefusedAt}
use Rattle.scheduler.specs.declared.schedule.line.Line.{Line}
use Rattle.history.specs.declared.machine.line_cause.LineCause.{LineCause}
use Rattle.history.specs.declared.machine.line_cause.LineCause.TheVariants.{NotAllowed, OtherReply}
use Rattle.history.specs.declared.machine.refused_line.RefusedLine.{RefusedLine}
use Rattle.scheduler.specs.declared.reply.Reply.{Reply}

-- the line's event is a step of the machine with no reply; or it is with this reply, and the line has another
abbrev pub IsCause : HeapImage → ℕ → Machine → Line → LineCause → Type 0
IsCause image workers w line NotAllowed =
    (reply : Reply) → ¬ (IsMachineStep (image_table image) (image_slide image) workers w (entry line.worker line.event reply))
IsCause image workers w line (OtherReply found) =
    IsMachineStep (image_table image) (image_slide image) workers w (entry line.worker line.event found)
    × ((reply : Reply) × (line.reply ≡ Some reply) × (reply ≢ found))

-- the first line of a schedule's text that the machine refuses, and why it does so after the lines before
pub record IsExplained (image : HeapImage) (v : ScheduleView) (found : RefusedLine) : Type 0 where
  pub refused : IsRefusedAt image v found.number
  pub cause : IsCause image v.workers (machine_of image refused.log) refused.line found.cause
