-- A schedule with all its replies has one history.
use Rattle.std.proofs.Common.{◌≡◌, ℕ, Option, Some, None, List, [], ◌∷◌, map, refl, sym, ap, ◌∙◌, subst, ◌⊎◌, ⊎_elim}
use Rattle.std.specs.Prelude.{true}
use Rattle.std.proofs.lemmas.Option.{none-some, same_Some}
use Rattle.object_heap.specs.HeapImage.{HeapImage}
use Rattle.scheduler.specs.MoveTable.{MoveTable, IsMoveTable}
use Rattle.scheduler.specs.State.{AllAreSettled}
use Rattle.scheduler.specs.History.{IsLegal, entry, state_of}
use Rattle.scheduler.specs.Schedule.{ScheduleView, IsHistory, line_of, entries_of, schedule_of}
use Rattle.scheduler.specs.ImageMoves.{image_table}
use Rattle.history.specs.WordMachine.{image_slide, machine_start, machine_of}
use Rattle.history.specs.Replay.{IsCallOfLine, AreCallsOf, IsChecked}
use Rattle.scheduler.specs.Whole.{HasEachOnce}
use Rattle.history.specs.Record.{IsRecord}
use Rattle.scheduler.specs.declared.event.Event.{Event}
use Rattle.scheduler.specs.declared.reply.Reply.{Reply}
use Rattle.scheduler.specs.declared.entry.Entry.{Entry}
use Rattle.scheduler.specs.declared.schedule.line.Line.{Line}
use Rattle.history.proofs.Lemmas.Machines.{legal_steps, known-machine_from}

entry_is : (w w' : ℕ) (e e' : Event) (r r' : Reply) → w ≡ w' → e ≡ e' → r ≡ r' → entry w e r ≡ entry w' e' r'
entry_is w w' e e' r r' a b c = cc

told_reply : (r s : Reply) → (◌≡◌ {A = Option Reply} (Some r) None) ⊎ (◌≡◌ {A = Option Reply} (Some r) (Some s)) → s ≡ r
told_reply r s told = ⊎_elim (λ (none : Some r ≡ None). absurd (none-some r (sym none))) (λ (some : Some r ≡ Some s). sym (same_Some r s some)) told

call_is : (e f : Entry) → IsCallOfLine (line_of e) f → f ≡ e
call_is e f is = entry_is f.worker e.worker f.event e.event f.reply e.reply is.worker is.event (told_reply e.reply f.reply is.reply)

calls_are : (es log : List Entry) → AreCallsOf (map line_of es) log → log ≡ es
calls_are [] [] calls = refl
calls_are (e ∷ es) (f ∷ log) calls = ap (λ (x : Entry). x ∷ log) (call_is e f calls.0) ∙ ap (λ (xs : List Entry). e ∷ xs) (calls_are es log calls.1)
calls_are [] (f ∷ log) calls = absurd calls
calls_are (e ∷ es) [] calls = absurd calls

schedule_is : (v : ScheduleView) (log : List Entry) → v.lines ≡ map line_of log → v ≡ schedule_of v.workers log
schedule_is v log e = ap (λ (lines : List Line). record { workers = v.workers; lines = lines }) e

pub recorded : (image : HeapImage) (v : ScheduleView) → IsMoveTable (image_table image)
    → ((m : MoveTable) (workers : ℕ) (log : List Entry) → IsMoveTable m → IsLegal m workers log → AllAreSettled m (state_of log) → HasEachOnce m log)
    → IsHistory v → IsChecked image v true → IsRecord image v.workers v
recorded image v lawful each history checked =
    let told : v.lines ≡ map line_of (entries_of v.lines) = history.1.2 in
    let same : checked.log ≡ entries_of v.lines = calls_are (entries_of v.lines) checked.log (subst (λ (lines : List Line). AreCallsOf lines checked.log) told checked.taken.calls) in
    let settled : AllAreSettled (image_table image) (machine_of image checked.log).known = checked.tells.0 refl in
    let known : (machine_of image checked.log).known ≡ state_of checked.log = known-machine_from (image_slide image) (machine_start image) checked.log in
    record {
      log = checked.log;
      schedule = schedule_is v checked.log (told ∙ ap (map line_of) (sym same));
      allowed = checked.taken.allowed;
      once = each (image_table image) v.workers checked.log lawful
          (legal_steps (image_table image) (image_slide image) v.workers (machine_start image) checked.log checked.taken.allowed)
          (subst (AllAreSettled (image_table image)) known settled);
    }
