use Rattle.std.proofs.Common.{◌≡◌, ◌++◌, length}
use Rattle.history.specs.ReadSchedule.{IsTextSchedule}
use Rattle.history.specs.ScheduleText.{schedule_text}
use Rattle.history.proofs.schedule.schedule_reading.read_schedule.Given as goal

abbrev pub invariant-loop-rest : goal.invariant-loop-rest
invariant-loop-rest l = record {
  kept : IsTextSchedule (record { workers = l.workers; lines = l.lines.items });
  is : l.bytes ≡ schedule_text (record { workers = l.workers; lines = l.lines.items }) ++ l.rest;
}

abbrev pub decreases-loop-rest : goal.decreases-loop-rest
decreases-loop-rest l = length l.rest
