-- Schedules as text: a header with the number of workers, then a line for each call.
use Rattle.std.specs.Prelude.{ℕ, List, [], ◌∷◌, ◌++◌, flat_map, codes, decimal, Option, Some, None}
use Rattle.scheduler.specs.CallText.{event_text, reply_text}
use Rattle.scheduler.specs.Schedule.{ScheduleView}
use Rattle.scheduler.specs.declared.reply.Reply.{Reply}
use Rattle.scheduler.specs.declared.schedule.line.Line.{Line}

-- the reply, or a question mark if it is left open
abbrev pub line_reply_text : Option Reply → List ℕ
line_reply_text None = codes "?"
line_reply_text (Some reply) = reply_text reply

-- worker, event and reply, and a newline
abbrev pub line_text : Line → List ℕ
line_text line = decimal line.worker ++ (32 ∷ (event_text line.event ++ (32 ∷ (line_reply_text line.reply ++ (10 ∷ [])))))

abbrev pub header_text : ℕ → List ℕ
header_text workers = codes "schedule 1 " ++ (decimal workers ++ (10 ∷ []))

abbrev pub schedule_text : ScheduleView → List ℕ
schedule_text v = header_text v.workers ++ flat_map line_text v.lines
