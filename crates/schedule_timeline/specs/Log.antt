-- Schedules with the replies of all calls.
use Rattle.std.specs.Prelude.{◌≡◌, List, map}
use Rattle.scheduler.specs.Schedule.{ScheduleView, entries_of, line_of}
use Rattle.scheduler.specs.declared.entry.Entry.{Entry}

-- the calls of the lines that have a reply
abbrev pub log_of : ScheduleView → List Entry
log_of v = entries_of v.lines

-- each line has its reply
abbrev pub HasAllReplies : ScheduleView → Type 0
HasAllReplies v = v.lines ≡ map line_of (log_of v)
