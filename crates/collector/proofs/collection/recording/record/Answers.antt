use denote.Param.Send.{sendable}
use Rattle.std.proofs.Crossing.{crosses}
use Rattle.std.proofs.Common.{◌≡◌, ℕ, subst, ap, ◌∙◌}
use Rattle.std.proofs.lemmas.Result.{err_from_is_err_and}
use Rattle.object_heap.specs.HeapImage.{HeapImage}
use Rattle.image_streams.specs.declared.fault.Fault.TheVariants.{Gate}
use Rattle.summary.specs.Compaction.{compact}
use Rattle.collector.specs.declared.workers.shared.Shared.{Shared}
use Rattle.collector.specs.Collections.{figures_of}
use Rattle.collector.specs.Halts.{MayRefuse}
use Rattle.collector.proofs.Lemmas.Crossing.{recorder_sync}
use Rattle.collector.proofs.Lemmas.Losses.{not_of_schedule}
use Rattle.collector.proofs.collection.recording.record.Goals as goal

pub work-requires-sync-D : goal.work-requires-sync-D
work-requires-sync-D g c κs within = search (crosses, sendable, recorder_sync) depth 60 fits 20000

pub returns-in_err-work-clause-gate : goal.returns-in_err-work-clause-gate
returns-in_err-work-clause-gate g c is =
    let may : ℕ → ℕ → Type 0 = g.G.Gate.may_refuse c.args.gate.now in
    let made = c.in_ok-compaction.ensures in
    let compaction = c.in_ok-compaction.compaction in
    subst (λ (image : HeapImage). MayRefuse may c.args.workers image) made.survey (subst (λ (n : ℕ). MayRefuse may n compaction.shared.survey) made.workers c.in_err-work.ensures.fault.1)

pub returns-in_err-fill_left-clause-gate : goal.returns-in_err-fill_left-clause-gate
returns-in_err-fill_left-clause-gate g c is =
    let may : ℕ → ℕ → Type 0 = g.G.Gate.may_refuse c.args.gate.now in
    let made = c.in_ok-compaction.ensures in
    let compaction = c.work.new.self in
    let image : compaction.shared.survey ≡ c.args.image = ap (λ (s : Shared _ _). s.survey) c.work.ensures.shared ∙ made.survey in
    let count : compaction.workers.len ≡ c.args.workers = c.work.ensures.workers ∙ made.workers in
    subst (λ (image : HeapImage). MayRefuse may c.args.workers image) image (subst (λ (n : ℕ). MayRefuse may n compaction.shared.survey) count c.in_err-fill_left.ensures.fault.1)

pub returns-in_err-schedule-clause-gate : goal.returns-in_err-schedule-clause-gate
returns-in_err-schedule-clause-gate g c is =
    let fault = c.in_err-schedule.field-0.0 in
    let p = err_from_is_err_and c.from_residual-in_err-schedule.result c.from_residual-in_err-schedule.ensures.1 in
    let gate : fault ≡ Gate = cc (p.1, p.2, is) in
    absurd (not_of_schedule fault gate c.in_err-schedule.ensures.fault)

pub returns-clause-image : goal.returns-clause-image
returns-clause-image g c = c.finish-ended.ensures.image ∙ ap compact (ap (λ (s : Shared _ _). s.survey) (c.fill_left.ensures.shared ∙ c.work.ensures.shared) ∙ c.in_ok-compaction.ensures.survey)

pub returns-clause-figures : goal.returns-clause-figures
returns-clause-figures g c = c.finish-ended.ensures.figures ∙ ap figures_of (ap (λ (s : Shared _ _). s.survey) (c.fill_left.ensures.shared ∙ c.work.ensures.shared) ∙ c.in_ok-compaction.ensures.survey)
