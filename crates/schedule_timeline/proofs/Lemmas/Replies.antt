-- Schedules with the replies of all calls.
use Rattle.std.proofs.Common.{◌≡◌, ◌∙◌, ◌<◌, ◌≤◌, ℕ, List, [], ◌∷◌, Some, length, take, take_all, get_or, ap, sym, refl, arith}
use Rattle.std.specs.Prelude.{map, slice_get, unwrap_or}
use Rattle.std.proofs.lemmas.List.{length-map}
use Rattle.std.proofs.lemmas.Option.{slice_get-get_or}
use Rattle.scheduler.specs.Schedule.{ScheduleView, entries_of, line_of, schedule_of}
use Rattle.scheduler.specs.declared.entry.Entry.{Entry}
use Rattle.schedule_timeline.specs.Log.{HasAllReplies, log_of}

-- the entries of the lines of a history are the history
entries_back : (log : List Entry) → entries_of (map line_of log) ≡ log
entries_back [] = refl
entries_back (e ∷ es) = ap (λ (l : List Entry). e ∷ l) (entries_back es)

-- a history as a schedule has the history as its log, and all replies
pub log_of_history : (v : ScheduleView) (workers : ℕ) (log : List Entry) → v ≡ schedule_of workers log → log_of v ≡ log
log_of_history v workers log is = ap (λ (u : ScheduleView). entries_of u.lines) is ∙ entries_back log

pub history_has_replies : (v : ScheduleView) (workers : ℕ) (log : List Entry) → v ≡ schedule_of workers log → HasAllReplies v
history_has_replies v workers log is = ap (λ (u : ScheduleView). u.lines) is ∙ ap (map line_of) (sym (log_of_history v workers log is))

-- there is a call for each line
pub a_call_for_each_line : (v : ScheduleView) → HasAllReplies v → length v.lines ≡ length (log_of v)
a_call_for_each_line v replies = ap length replies ∙ length-map (log_of v) line_of

-- the call at a place
pub call_there : (log : List Entry) (i : ℕ) (e d : Entry) → i < length log → slice_get log i ≡ Some e → e ≡ get_or log i d
call_there log i e d inside is = ap (λ o. unwrap_or o d) (sym is ∙ slice_get-get_or log i d inside)

-- all calls
pub all_calls : (v : ScheduleView) (i : ℕ) → HasAllReplies v → length v.lines ≤ i → take i (log_of v) ≡ log_of v
all_calls v i replies all = take_all i (log_of v) (omega (arith, a_call_for_each_line v replies, all))
