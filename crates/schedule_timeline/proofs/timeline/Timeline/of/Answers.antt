use Rattle.std.proofs.Common.{◌≡◌, ◌∙◌, ℕ, Bool, true, false, List, ap, refl, sym, subst}
use Rattle.std.specs.Prelude.{IsTrue, ◌↔◌}
use Rattle.std.proofs.lemmas.Bool.{false≢true}
use Rattle.object_heap.specs.HeapImage.{HeapImage, region_count}
use Rattle.scheduler.specs.State.{AllAreSettled}
use Rattle.scheduler.specs.ImageMoves.{image_table}
use Rattle.scheduler.specs.declared.entry.Entry.{Entry}
use Rattle.scheduler.specs.Schedule.{ScheduleView}
use Rattle.history.specs.WordMachine.{machine_of}
use Rattle.history.specs.Replied.{IsReplied}
use Rattle.history.specs.declared.machine.replied.Replied.{Replied}
use Rattle.schedule_timeline.specs.FirstCalls.{AreGrantedBelow}
use Rattle.schedule_timeline.specs.Timeline.{EndsAs, bars_of, ending_of, freeings_of}
use Rattle.schedule_timeline.proofs.Lemmas.Replies.{history_has_replies, log_of_history}
use Rattle.schedule_timeline.proofs.timeline.Timeline.of.Goals as goal

-- a schedule ends as its calls do
ends : (image : HeapImage) (log : List Entry) (settled : Bool) → IsTrue settled ↔ AllAreSettled (image_table image) (machine_of image log).known → EndsAs image log (ending_of settled)
ends image log true tells = tells.0 refl
ends image log false tells = λ all. false≢true (tells.1 all)

-- the replies for a plan are those for its image
on_image : (plan image : HeapImage) (v : ScheduleView) (gives : Replied) → plan ≡ image → IsReplied plan v gives → IsReplied image v gives
on_image plan image v gives same told = subst (λ (i : HeapImage). IsReplied i v gives) same told

-- every granted region is below the number of regions
below : (image : HeapImage) (log log' : List Entry) (regions : ℕ) → AreGrantedBelow (region_count image) log → regions ≡ region_count image → log' ≡ log
    → AreGrantedBelow regions log'
below image log log' regions are few same = subst (λ n. AreGrantedBelow n log') (sym few) (subst (AreGrantedBelow (region_count image)) (sym same) are)

pub bars_of-requires-clause-replies : goal.bars_of-requires-clause-replies
bars_of-requires-clause-replies c =
    let r = on_image _ c.args.image.now c.args.schedule.now _ (c.plan-plan.ensures ∙ c.requires.same) c.in_ok-lines.ensures.ok in
    history_has_replies _ c.args.schedule.now.workers r.log r.lines

pub bars_of-requires-clause-below : goal.bars_of-requires-clause-below
bars_of-requires-clause-below c =
    let r = on_image _ c.args.image.now c.args.schedule.now _ (c.plan-plan.ensures ∙ c.requires.same) c.in_ok-lines.ensures.ok in
    let same = log_of_history _ c.args.schedule.now.workers r.log r.lines in
    let few = c.regions-regions.ensures.value ∙ ap region_count (c.plan-plan.ensures ∙ c.requires.same) in
    below c.args.image.now r.log _ _ (c.grants_are_inside.ensures c.args.image.now c.args.schedule.now.workers c.args.schedule.now.lines r.log r.taken) few same

pub freeings_of-requires-clause-replies : goal.freeings_of-requires-clause-replies
freeings_of-requires-clause-replies c =
    let r = on_image _ c.args.image.now c.args.schedule.now _ (c.plan-plan.ensures ∙ c.requires.same) c.in_ok-lines.ensures.ok in
    history_has_replies _ c.args.schedule.now.workers r.log r.lines

pub freeings_of-requires-clause-below : goal.freeings_of-requires-clause-below
freeings_of-requires-clause-below c =
    let r = on_image _ c.args.image.now c.args.schedule.now _ (c.plan-plan.ensures ∙ c.requires.same) c.in_ok-lines.ensures.ok in
    let same = log_of_history _ c.args.schedule.now.workers r.log r.lines in
    let few = c.regions-regions.ensures.value ∙ ap region_count (c.plan-plan.ensures ∙ c.requires.same) in
    below c.args.image.now r.log _ _ (c.grants_are_inside.ensures c.args.image.now c.args.schedule.now.workers c.args.schedule.now.lines r.log r.taken) few same

pub returns-clause-ok : goal.returns-clause-ok
returns-clause-ok c =
    let r = on_image _ c.args.image.now c.args.schedule.now _ (c.plan-plan.ensures ∙ c.requires.same) c.in_ok-lines.ensures.ok in
    let same = log_of_history _ c.args.schedule.now.workers r.log r.lines in
    record {
      log = r.log;
      replays = r.taken;
      replies = r.lines;
      bars = c.in_ok-bars_of.ensures ∙ ap bars_of same;
      freeings = c.in_ok-freeings_of.ensures ∙ ap freeings_of same;
      ending = subst (EndsAs c.args.image.now r.log) (sym c.ending_of.ensures) (ends c.args.image.now r.log _ r.tells);
    }
