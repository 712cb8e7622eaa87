use Rattle.std.proofs.Common.{◌≡◌, ◌∙◌, ◌<◌, List, Option, Some, None, length, get_or, ap, sym, arith}
use Rattle.std.specs.Prelude.{option_map, slice_index_or}
use Rattle.std.specs.List.{enumerate_from, filter_map}
use Rattle.scheduler.specs.declared.entry.Entry.{Entry}
use Rattle.scheduler.specs.declared.event.Event.TheVariants.{Claim}
use Rattle.scheduler.specs.declared.reply.Reply.TheVariants.{Yes}
use Rattle.schedule_timeline.specs.declared.timeline.call.Call.{Call}
use Rattle.schedule_timeline.specs.Log.{log_of}
use Rattle.schedule_timeline.specs.Timeline.{call_at, freed_pair, freeing_if, freeing_of}
use Rattle.schedule_timeline.proofs.Lemmas.Bars.{freeing_same, none_more, one_more, taken}
use Rattle.schedule_timeline.proofs.Lemmas.Replies.{a_call_for_each_line, all_calls, call_there}
use Rattle.schedule_timeline.proofs.timeline.freeings_of.Goals as goal
use Rattle.schedule_timeline.proofs.timeline.freeings_of.Goals.{in-Some+in_ok-push, in_default}

-- the default for places past the end
abbrev other : Entry
other = record { worker = 0; event = Claim 0; reply = Yes }

pub loop-i-preserved : goal.loop-i-preserved
loop-i-preserved c =
    let log = log_of c.args.schedule.now in
    let i = c.loop-i.i in
    let e = get_or log i other in
    let there : i < length log = omega (arith, a_call_for_each_line c.args.schedule.now c.requires.replies, c.loop-i-test.true, c.len-i-end.ensures) in
    let here = call_there log i c.entry_at-entry.result other there c.entry_at-entry.ensures in
    elim c.match-freed_pair.branch [
      | in-Some+in_ok-push w ↦
          let d = w.in-Some.destination in
          let s = w.in-Some.source in
          let some : freed_pair e.event e.reply ≡ Some (d, s) = ap (λ (x : Entry). freed_pair x.event x.reply) (sym here) ∙ sym c.freed_pair.ensures ∙ w.in-Some.is in
          let first = w.call_of.ensures ∙ ap (λ (list : List (Option Call)). slice_index_or list s None) w.deref.ensures.value ∙ taken c.args.regions log c.requires.below c.in_ok-grants.grants.items s c.in_ok-grants.ensures in
          let mark = freeing_same log w.call_at.result (call_at (i, e)) d s w.call_of.result (w.call_at.ensures ∙ ap (λ (x : Entry). call_at (i, x)) here) first in
          ap (λ v. v.items) w.freeings-is ∙ w.in_ok-push.ensures.items
          ∙ one_more (freeing_if log) log i other c.loop-i.freeings.items _ there c.loop-i.invariant
          (ap (option_map (freeing_of log (call_at (i, e)))) some ∙ ap Some (sym mark))
      | in_default w ↦
          let none : freed_pair e.event e.reply ≡ None = ap (λ (x : Entry). freed_pair x.event x.reply) (sym here) ∙ sym c.freed_pair.ensures ∙ w.in_default.is in
          ap (λ v. v.items) w.freeings-is
          ∙ none_more (freeing_if log) log i other c.loop-i.freeings.items there c.loop-i.invariant (ap (option_map (freeing_of log (call_at (i, e)))) none)
    ]

pub returns : goal.returns
returns c =
    c.loop-i.invariant ∙ ap (λ (log : List Entry). filter_map (freeing_if (log_of c.args.schedule.now)) (enumerate_from 0 log))
    (all_calls c.args.schedule.now c.loop-i.i c.requires.replies (omega (arith, c.loop-i-test.false, c.len-i-end.ensures)))
