-- The bars and marks of a history: a bar for each grant, and a mark for each drain that frees a region.
use Rattle.std.specs.Prelude.{◌≡◌, ℕ, ◌+◌, ◌==◌, Bool, true, false, if◌then◌else◌, List, Option, Some, None, option_map, slice_get}
use Rattle.std.specs.List.{enumerate_from, filter_map}
use Rattle.object_heap.specs.HeapImage.{HeapImage}
use Rattle.scheduler.specs.State.{AllAreSettled}
use Rattle.scheduler.specs.History.{is_grant, is_settling_of}
use Rattle.scheduler.specs.Whole.{is_completion_of}
use Rattle.scheduler.specs.Schedule.{ScheduleView, schedule_of}
use Rattle.scheduler.specs.ImageMoves.{image_table}
use Rattle.history.specs.WordMachine.{machine_of}
use Rattle.history.specs.Replay.{IsReplay}
use Rattle.scheduler.specs.declared.entry.Entry.{Entry}
use Rattle.scheduler.specs.declared.event.Event.{Event}
use Rattle.scheduler.specs.declared.event.Event.TheVariants.{Claim, Drain}
use Rattle.scheduler.specs.declared.reply.Reply.{Reply}
use Rattle.scheduler.specs.declared.reply.Reply.TheVariants.{Yes, Last}
use Rattle.schedule_timeline.specs.declared.timeline.bar.Bar.{Bar}
use Rattle.schedule_timeline.specs.declared.timeline.call.Call.{Call}
use Rattle.schedule_timeline.specs.declared.timeline.deed.Deed.{Deed}
use Rattle.schedule_timeline.specs.declared.timeline.deed.Deed.TheVariants.{Grant, Completion, Settling}
use Rattle.schedule_timeline.specs.declared.timeline.ending.Ending.{Ending}
use Rattle.schedule_timeline.specs.declared.timeline.ending.Ending.TheVariants.{Finished, Open}
use Rattle.schedule_timeline.specs.declared.timeline.freeing.Freeing.{Freeing}
use Rattle.schedule_timeline.specs.declared.timeline.Timeline.{Timeline}

-- the region is there, and is r
abbrev pub is_region : ℕ → Option ℕ → Bool
is_region r None = false
is_region r (Some q) = r == q

-- the call does this to region r
abbrev pub does : Deed → ℕ → Entry → Bool
does Grant r e = is_grant r e
does Completion r e = is_completion_of r e.event
does Settling r e = is_settling_of r e.event

-- The call at a place of a history, by its line. The first call is in line 2 of a schedule's text.
abbrev pub call_at : ℕ × Entry → Call
call_at p = record { worker = p.1.worker; line = p.0 + 2 }

-- that call, if the condition holds
abbrev pub call_if : (Entry → Bool) → ℕ × Entry → Option Call
call_if is p = if is p.1 then Some (call_at p) else None

-- the calls of a history for which a condition holds, in their order
abbrev pub calls_that : (Entry → Bool) → List Entry → List Call
calls_that is log = filter_map (call_if is) (enumerate_from 0 log)

-- the first of these calls, if any
abbrev pub first_call : (Entry → Bool) → List Entry → Option Call
first_call is log = slice_get (calls_that is log) 0

-- the bar of a region that this call grants
abbrev pub bar_of : List Entry → Call → ℕ → Bar
bar_of log call r = record {
  region = r;
  claimed = call;
  completed = first_call (does Completion r) log;
  settled = first_call (does Settling r) log;
}

-- the region that a call with this reply grants, if any
abbrev pub granted_region : Event → Reply → Option ℕ
granted_region (Claim r) Yes = Some r
granted_region _ _ = None

-- the bar of the call at a place, if it grants a region
abbrev pub bar_if : List Entry → ℕ × Entry → Option Bar
bar_if log p = option_map (bar_of log (call_at p)) (granted_region p.1.event p.1.reply)

-- the bars of a history: one for each call that grants a region, in their order
abbrev pub bars_of : List Entry → List Bar
bars_of log = filter_map (bar_if log) (enumerate_from 0 log)

-- the destination and the source of a drain with the reply that the source has no pending readers
abbrev pub freed_pair : Event → Reply → Option (ℕ × ℕ)
freed_pair (Drain d s) Last = Some (d, s)
freed_pair _ _ = None

-- the mark of a drain that frees the source of this pair
abbrev pub freeing_of : List Entry → Call → ℕ × ℕ → Freeing
freeing_of log call pair = record {
  drain = call;
  destination = pair.0;
  source = pair.1;
  taken = first_call (does Grant pair.1) log;
}

-- the mark of the call at a place, if it frees a region
abbrev pub freeing_if : List Entry → ℕ × Entry → Option Freeing
freeing_if log p = option_map (freeing_of log (call_at p)) (freed_pair p.1.event p.1.reply)

-- the marks of a history: one for each drain that frees a region, in their order
abbrev pub freeings_of : List Entry → List Freeing
freeings_of log = filter_map (freeing_if log) (enumerate_from 0 log)

-- how a schedule ends by which all regions to fill are settled, or not
abbrev pub ending_of : Bool → Ending
ending_of true = Finished
ending_of false = Open

-- whether all regions to fill are settled after these calls
abbrev pub EndsAs : HeapImage → List Entry → Ending → Type 0
EndsAs image log Finished = AllAreSettled (image_table image) (machine_of image log).known
EndsAs image log Open = ¬ (AllAreSettled (image_table image) (machine_of image log).known)

-- The word machine of the image accepts the schedule's lines, with these calls. The timeline has the schedule with all
-- replies, the bars and marks of the calls, and the ending.
pub record IsTimelineOf (image : HeapImage) (v : ScheduleView) (timeline : Timeline) : Type 0 where
  pub log : List Entry
  pub replays : IsReplay image v.workers v.lines log
  pub replies : timeline.schedule ≡ schedule_of v.workers log
  pub bars : timeline.bars.items ≡ bars_of log
  pub freeings : timeline.freeings.items ≡ freeings_of log
  pub ending : EndsAs image log timeline.ending
