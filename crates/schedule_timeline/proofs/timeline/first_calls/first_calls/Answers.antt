use Rattle.std.proofs.Common.{◌∙◌, ◌<◌, List, Option, None, length, ap, sym, subst, arith}
use Rattle.std.specs.Prelude.{slice_index_or}
use Rattle.std.proofs.lemmas.List.{with_items_is}
use Rattle.scheduler.specs.declared.entry.Entry.{Entry}
use Rattle.schedule_timeline.specs.declared.timeline.call.Call.{Call}
use Rattle.schedule_timeline.specs.Log.{log_of}
use Rattle.schedule_timeline.specs.Timeline.{call_at, does, is_region}
use Rattle.scheduler.specs.declared.event.Event.TheVariants.{Claim}
use Rattle.scheduler.specs.declared.reply.Reply.TheVariants.{Yes}
use Rattle.schedule_timeline.specs.FirstCalls.{AreFirst, earlier_of}
use Rattle.schedule_timeline.proofs.Lemmas.Tables.{noted, same}
use Rattle.schedule_timeline.proofs.Lemmas.Replies.{a_call_for_each_line, all_calls, call_there}
use Rattle.schedule_timeline.proofs.timeline.first_calls.first_calls.Goals as goal
use Rattle.schedule_timeline.proofs.timeline.first_calls.first_calls.Goals.{in-Some, in_default}

-- the default for places past the end
abbrev other : Entry
other = record { worker = 0; event = Claim 0; reply = Yes }

pub loop-i-preserved : goal.loop-i-preserved
loop-i-preserved c =
    let log = log_of c.args.schedule.now in
    let i = c.loop-i.i in
    let inside : i < length log = omega (arith, a_call_for_each_line c.args.schedule.now c.requires.replies, c.loop-i-test.true, c.len-i-end.ensures) in
    let here = call_there log i c.entry_at-entry.result other inside c.entry_at-entry.ensures in
    elim c.match-region.branch [
      | in-Some w ↦
          let is = w.deref_mut.ensures.value in
          let region = w.in-Some.region in
          let items = ap (λ v. v.items) w.calls-is ∙ with_items_is c.loop-i.calls w.note.new.calls (w.note.ensures.all ∙ w.deref_mut.ensures.len) in
          noted c.args.deed c.args.regions log i other c.loop-i.calls.items c.match-region.calls.items region w.call_at.result inside c.loop-i.invariant
          (λ r. ap (does c.args.deed r) (sym here) ∙ c.region.ensures r ∙ ap (is_region r) w.in-Some.is)
          (w.call_at.ensures ∙ ap (λ (e : Entry). call_at (i, e)) here)
          (ap length items ∙ w.note.ensures.all ∙ ap length is)
          (λ r apart. ap (λ (list : List (Option Call)). slice_index_or list r None) items ∙ w.note.ensures.others r apart ∙ ap (λ (list : List (Option Call)). slice_index_or list r None) is)
          (λ few. ap (λ (list : List (Option Call)). slice_index_or list region None) items ∙ w.note.ensures.first (subst (λ (list : List (Option Call)). region < length list) (sym is) few)
          ∙ ap (λ (list : List (Option Call)). earlier_of (slice_index_or list region None) w.call_at.result) is)
      | in_default w ↦
          same c.args.deed c.args.regions log i other c.loop-i.calls.items c.match-region.calls.items inside c.loop-i.invariant
          (λ r. ap (does c.args.deed r) (sym here) ∙ c.region.ensures r ∙ ap (is_region r) w.in_default.is) (ap (λ v. v.items) w.calls-is)
    ]

pub returns : goal.returns
returns c =
    subst (λ (log : List Entry). AreFirst c.args.deed c.args.regions log c.loop-i.calls.items)
    (all_calls c.args.schedule.now c.loop-i.i c.requires.replies (omega (arith, c.loop-i-test.false, c.len-i-end.ensures))) c.loop-i.invariant
