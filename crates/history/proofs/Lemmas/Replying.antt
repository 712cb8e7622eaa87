-- A schedule that is followed for the replies of the word machine.
use Rattle.std.proofs.Common.{◌≡◌, ℕ, suc, ◌<◌, ◌≤◌, Bool, Some, List, [], ◌∷◌, ◌++◌, length, get_or, sym, ap, ◌∙◌, zero-add}
use Rattle.std.specs.Prelude.{IsTrue, ◌↔◌, map}
use Rattle.std.specs.List.{range_with_len}
use Rattle.std.proofs.lemmas.List.{map-append}
use Rattle.std.proofs.lemmas.List.FromFn.{get_or-map-range_with_len, length-map-range_with_len}
use Rattle.object_heap.specs.HeapImage.{HeapImage, IsValid, heap_words}
use Rattle.scheduler.specs.State.{AllAreSettled}
use Rattle.scheduler.specs.PackedLine.{IsSmall}
use Rattle.scheduler.specs.Scheduler.{state_in}
use Rattle.scheduler.specs.History.{entry}
use Rattle.scheduler.specs.Schedule.{ScheduleView, IsSchedule, line_of}
use Rattle.history.specs.Slide.{Machine}
use Rattle.history.specs.WordMachine.{machine_start, machine_of}
use Rattle.history.specs.Replay.{IsCallOfLine}
use Rattle.history.specs.Replayed.{Holds}
use Rattle.history.specs.Replied.{AreReplies, IsReplied}
use Rattle.history.specs.MachineLaws.{MachineLaws}
use Rattle.history.specs.Ledger.{IsLedger, Tells, Leads}
use Rattle.scheduler.specs.declared.entry.Entry.{Entry}
use Rattle.history.specs.declared.machine.ledger.Ledger.{Ledger}
use Rattle.scheduler.specs.declared.schedule.line.Line.{Line}
use Rattle.scheduler.specs.declared.reply.Reply.{Reply}
use Rattle.history.specs.declared.machine.replied.Replied.{Replied}
use Rattle.history.proofs.Lemmas.Copies.{IsUnderWay, line_fits, replied_schedule, view_of}
use Rattle.history.proofs.Lemmas.Following.{IsFollowed, no_line, followed_more, followed_by, followed_all}

-- the words of a machine's heap, as a list
machine_words : HeapImage → Machine → List ℕ
machine_words image w = map w.heap (range_with_len 0 (heap_words image))

words_held : (image : HeapImage) (w : Machine) → Holds image (machine_words image w) w
unfolding machine_words
words_held image w =
    record {
      long = length-map-range_with_len w.heap 0 (heap_words image);
      each = λ a l. get_or-map-range_with_len w.heap 0 (heap_words image) a a 0 l (zero-add a);
    }

-- the first lines are taken, with these replies, and the machine after them is one of the ledger
pub record IsReplying (image : HeapImage) (v : ScheduleView) (number : ℕ) (ledger : Ledger) (lines : List Line) : Type 0 where
  pub followed : IsFollowed image v number ledger
  pub replies : lines ≡ map line_of followed.log

pub first_reply : (image : HeapImage) (v : ScheduleView) (ledger : Ledger) (lines : List Line) → IsLedger image v.workers ledger → Tells ledger (machine_start image) → lines ≡ [] → IsReplying image v 0 ledger lines
first_reply image v ledger lines kept tells none =
    record { followed = record { kept = kept; log = []; taken = record { calls = tt; allowed = tt }; tells = tells }; replies = none }

-- the same with the machine's words, as the laws of copies want it
way_of : (image : HeapImage) (v : ScheduleView) (number : ℕ) (ledger : Ledger) (lines : List Line) (way : IsReplying image v number ledger lines)
    → IsUnderWay image v number ledger lines (machine_words image (machine_of image way.followed.log))
way_of image v number ledger lines way =
    record {
      kept = way.followed.kept;
      log = way.followed.log;
      taken = way.followed.taken;
      tells = way.followed.tells;
      replies = way.replies;
      holds = words_held image (machine_of image way.followed.log);
    }

module _ (image : HeapImage) (v : ScheduleView) (items : List Line) (number : ℕ) (old new : Ledger) (lines : List Line) (line : Line) (r : Reply)
    (same : items ≡ v.lines) (way : IsReplying image v number old lines) (inside : number < length items) (there : line ≡ get_or items number no_line)
    (call : IsCallOfLine line (entry line.worker line.event r)) (leads : Leads image old.scheduler.workers old (entry line.worker line.event r) new) where
  -- the line with its reply goes into twelve bytes
  pub reply_fits : MachineLaws → IsValid image → v.workers ≤ 64 → IsSmall (record { worker = line.worker; event = line.event; reply = Some r })
  reply_fits law valid most =
      line_fits law image valid v items number old new lines (machine_words image (machine_of image way.followed.log)) line r same (way_of image v number old lines way) inside there call leads most

  -- one line more
  pub reply_on : (lines' : List Line) → IsLedger image old.scheduler.workers new → lines' ≡ lines ++ (record { worker = line.worker; event = line.event; reply = Some r }) ∷ []
      → IsReplying image v (suc number) new lines'
  unfolding followed_by followed_more
  reply_on lines' kept more =
      let e : Entry = entry line.worker line.event r in
      record {
        followed = followed_by image v items number old new line r same way.followed inside there call leads kept;
        replies = more ∙ (ap (λ ls. ls ++ line_of e ∷ []) way.replies ∙ sym (map-append line_of way.followed.log (e ∷ [])));
      }

-- all lines are taken
pub all_replies : (image : HeapImage) (v : ScheduleView) (items : List Line) (number : ℕ) (ledger : Ledger) (lines : List Line) (done : Bool) → items ≡ v.lines → IsReplying image v number ledger lines
    → length items ≤ number → IsTrue done ↔ AllAreSettled ledger.scheduler.moves (state_in ledger.scheduler) → AreReplies image v lines done
unfolding followed_all
all_replies image v items number ledger lines done same way all tells =
    let checked = followed_all image v items number ledger done same way.followed all tells in
    record { log = way.followed.log; taken = checked.taken; replies = way.replies; tells = checked.tells }

-- the lines with their replies are a schedule
pub replies_schedule : MachineLaws → (image : HeapImage) (v : ScheduleView) (lines : List Line) (done : Bool) → IsValid image → IsSchedule v → AreReplies image v lines done
    → IsSchedule (record { workers = v.workers; lines = lines })
replies_schedule law image v lines done valid formed all =
    replied_schedule law image v lines (machine_words image (machine_of image all.log)) done valid formed
    (record { log = all.log; taken = all.taken; replies = all.replies; tells = all.tells; holds = words_held image (machine_of image all.log) })

-- the schedule of these lines
pub replied_of : (image : HeapImage) (v : ScheduleView) (lines : List Line) (gives : Replied) → AreReplies image v lines gives.is_settled → gives.lines ≡ record { workers = v.workers; lines = lines } → IsReplied image v gives
replied_of image v lines gives all told =
    record {
      log = all.log;
      taken = all.taken;
      lines = told ∙ ap (λ (ls : List Line). view_of v.workers ls) all.replies;
      tells = all.tells;
    }
