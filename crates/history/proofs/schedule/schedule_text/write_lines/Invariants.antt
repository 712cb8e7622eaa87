use Rattle.std.proofs.Common.{◌≡◌, ◌++◌, take, string_bytes}
use Rattle.std.specs.Prelude.{flat_map}
use Rattle.history.specs.ScheduleText.{line_text}
use Rattle.history.proofs.schedule.schedule_text.write_lines.Given as goal

abbrev pub invariant-loop-line : goal.invariant-loop-line
invariant-loop-line l = string_bytes l.text ≡ string_bytes l.fn.text ++ flat_map line_text (take l.line-index l.lines)
