use Rattle.std.proofs.Common.{◌≡◌, ◌-◌, ◌^◌}
use Rattle.std.specs.Io.KnownBytes.{Consumes}
use Rattle.history.specs.ReadSchedule.{IsTextSchedule}
use Rattle.history.specs.ScheduleText.{schedule_text}
use Rattle.history.specs.Window.{IsInRange, rest_of}
use Rattle.history.proofs.schedule.schedule_device.read_schedule_from.Given as goal

abbrev pub invariant-loop-lines : goal.invariant-loop-lines
invariant-loop-lines g l = record {
  in_range : IsInRange l.window;
  kept : IsTextSchedule (record { workers = l.workers; lines = l.lines.items });
  is : Consumes (g.R.Intake.left l.fn.source) (rest_of l.window (g.R.Intake.left l.source)) (schedule_text (record { workers = l.workers; lines = l.lines.items }));
  failed : g.R.Intake.has_failed l.source ≡ g.R.Intake.has_failed l.fn.source;
}

abbrev pub decreases-loop-lines : goal.decreases-loop-lines
decreases-loop-lines g l = 2 ^ 64 - l.lines.len
