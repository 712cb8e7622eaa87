use Rattle.std.proofs.Common.{◌≡◌, ◌∙◌, ◌<◌, List, Option, Some, None, true, length, get_or, ap, sym, refl, arith}
use Rattle.std.specs.Prelude.{option_map, slice_index_or}
use Rattle.std.specs.List.{enumerate_from, filter_map}
use Rattle.std.proofs.lemmas.Bool.{eq-eqb}
use Rattle.scheduler.specs.History.{is_grant}
use Rattle.scheduler.specs.declared.entry.Entry.{Entry}
use Rattle.scheduler.specs.declared.event.Event.TheVariants.{Claim}
use Rattle.scheduler.specs.declared.reply.Reply.TheVariants.{Yes}
use Rattle.schedule_timeline.specs.declared.timeline.call.Call.{Call}
use Rattle.schedule_timeline.specs.Log.{log_of}
use Rattle.schedule_timeline.specs.Timeline.{bar_if, bar_of, call_at, granted_region, is_region}
use Rattle.schedule_timeline.proofs.Lemmas.Bars.{bar_same, none_more, one_more}
use Rattle.schedule_timeline.proofs.Lemmas.Replies.{a_call_for_each_line, all_calls, call_there}
use Rattle.schedule_timeline.proofs.timeline.bars_of.Goals as goal
use Rattle.schedule_timeline.proofs.timeline.bars_of.Goals.{in-Some+in_ok-push, in_default}

-- the default for places past the end
abbrev other : Entry
other = record { worker = 0; event = Claim 0; reply = Yes }

pub loop-i-preserved : goal.loop-i-preserved
loop-i-preserved c =
    let log = log_of c.args.schedule.now in
    let i = c.loop-i.i in
    let e = get_or log i other in
    let there : i < length log = omega (arith, a_call_for_each_line c.args.schedule.now c.requires.replies, c.loop-i-test.true, c.len-i-end.ensures) in
    let here = call_there log i c.entry_at-entry.result other there c.entry_at-entry.ensures in
    elim c.match-granted_region.branch [
      | in-Some+in_ok-push w ↦
          let region = w.in-Some.region in
          let some : granted_region e.event e.reply ≡ Some region = ap (λ (x : Entry). granted_region x.event x.reply) (sym here) ∙ sym c.granted_region.ensures.value ∙ w.in-Some.is in
          let grants : is_grant region e ≡ true = ap (is_grant region) (sym here) ∙ c.granted_region.ensures.deed region ∙ ap (is_region region) w.in-Some.is ∙ eq-eqb region region refl in
          let inside : region < c.args.regions = c.requires.below i other there region grants in
          let completed = w.call_of.ensures ∙ ap (λ (list : List (Option Call)). slice_index_or list region None) w.deref.ensures.value ∙ c.in_ok-completions.ensures.each region inside in
          let settled = w.call_of-in-Some.ensures ∙ ap (λ (list : List (Option Call)). slice_index_or list region None) w.deref-in-Some.ensures.value ∙ c.in_ok-settlings.ensures.each region inside in
          let bar = bar_same log w.call_at.result (call_at (i, e)) region w.call_of.result w.call_of-in-Some.result (w.call_at.ensures ∙ ap (λ (x : Entry). call_at (i, x)) here) completed settled in
          ap (λ v. v.items) w.bars-is ∙ w.in_ok-push.ensures.items
          ∙ one_more (bar_if log) log i other c.loop-i.bars.items _ there c.loop-i.invariant
          (ap (option_map (bar_of log (call_at (i, e)))) some ∙ ap Some (sym bar))
      | in_default w ↦
          let none : granted_region e.event e.reply ≡ None = ap (λ (x : Entry). granted_region x.event x.reply) (sym here) ∙ sym c.granted_region.ensures.value ∙ w.in_default.is in
          ap (λ v. v.items) w.bars-is
          ∙ none_more (bar_if log) log i other c.loop-i.bars.items there c.loop-i.invariant (ap (option_map (bar_of log (call_at (i, e)))) none)
    ]

pub returns : goal.returns
returns c =
    c.loop-i.invariant ∙ ap (λ (log : List Entry). filter_map (bar_if (log_of c.args.schedule.now)) (enumerate_from 0 log))
    (all_calls c.args.schedule.now c.loop-i.i c.requires.replies (omega (arith, c.loop-i-test.false, c.len-i-end.ensures)))
