-- Schedules: histories in which replies may be left open.
use Rattle.std.specs.Prelude.{◌≡◌, ℕ, ◌≤◌, Bool, true, false, ◌&&◌, nat_lt, nat_le, IsTrue, All, List, [], ◌∷◌, map, Option, Some, None}
use Rattle.scheduler.specs.MoveTable.{MoveTable, IsMoveTable}
use Rattle.scheduler.specs.History.{IsLegal}
use Rattle.scheduler.specs.declared.event.Event.{Event}
use Rattle.scheduler.specs.declared.event.Event.TheVariants.{Claim, Look, Drain, Complete, Settle, Poll, Copy}
use Rattle.scheduler.specs.declared.reply.Reply.{Reply}
use Rattle.scheduler.specs.declared.reply.Reply.TheVariants.{Yes, No, Open, Outside, Claimed, Filled, Last, NotLast, Done, All as AllSettled, More}
use Rattle.scheduler.specs.declared.entry.Entry.{Entry}
use Rattle.scheduler.specs.declared.schedule.line.Line.{Line}

-- the events that a schedule may have; a copy has at least one word
abbrev pub is_event : Event → Bool
is_event (Copy d n) = nat_le 1 n
is_event _ = true

-- the replies that an event may have
abbrev pub is_reply_to : Event → Reply → Bool
is_reply_to (Claim r) Yes = true
is_reply_to (Claim r) No = true
is_reply_to (Look r) (Open n) = nat_le n 2
is_reply_to (Look r) (Outside n) = nat_le n 2
is_reply_to (Look r) Claimed = true
is_reply_to (Look r) Filled = true
is_reply_to (Drain d s) Last = true
is_reply_to (Drain d s) NotLast = true
is_reply_to (Complete d) Done = true
is_reply_to (Settle d) AllSettled = true
is_reply_to (Settle d) More = true
is_reply_to Poll AllSettled = true
is_reply_to Poll More = true
is_reply_to (Copy d n) Done = true
is_reply_to _ _ = false

-- a reply that the event may have, or one left open
abbrev pub is_line_reply : Event → Option Reply → Bool
is_line_reply event None = true
is_line_reply event (Some reply) = is_reply_to event reply

-- a line that a schedule of this number of workers may have
abbrev pub is_line : ℕ → Line → Bool
is_line workers line = nat_lt line.worker workers && (is_event line.event && is_line_reply line.event line.reply)

-- What contracts see of a schedule.
pub record ScheduleView : Type 0 where
  pub workers : ℕ
  pub lines : List Line

-- the invariant of a schedule
pub record IsSchedule (v : ScheduleView) : Type 0 where
  pub some : 1 ≤ v.workers
  pub few : v.workers ≤ 64
  pub lines : All (λ line. IsTrue (is_line v.workers line)) v.lines

-- the entry as a line with its reply
abbrev pub line_of : Entry → Line
line_of e = record { worker = e.worker; event = e.event; reply = Some e.reply }

-- a history as a schedule
abbrev pub schedule_of : ℕ → List Entry → ScheduleView
schedule_of workers log = record { workers = workers; lines = map line_of log }

abbrev pub with_entry : Line → Option Reply → List Entry → List Entry
with_entry line None log = log
with_entry line (Some reply) log = record { worker = line.worker; event = line.event; reply = reply } ∷ log

-- the entries of the lines that have a reply
abbrev pub entries_of : List Line → List Entry
entries_of [] = []
entries_of (line ∷ lines) = with_entry line line.reply (entries_of lines)

-- each line has its reply, and the list is legal for some moves
abbrev pub IsHistory : ScheduleView → Type 0
IsHistory v = (m : MoveTable) × (IsMoveTable m × IsLegal m v.workers (entries_of v.lines) × (v.lines ≡ map line_of (entries_of v.lines)))
