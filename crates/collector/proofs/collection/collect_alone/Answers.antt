use Rattle.std.proofs.Common.{◌≡◌, ℕ, ap, ◌∙◌, subst}
use Rattle.object_heap.specs.HeapImage.{HeapImage}
use Rattle.summary.specs.Compaction.{compact}
use Rattle.scheduler.specs.ImageMoves.{image_table}
use Rattle.scheduler.specs.History.{IsLegal}
use Rattle.scheduler.specs.Whole.{HasEachOnce}
use Rattle.claim_board.specs.Finishes.{history}
use Rattle.collector.specs.declared.workers.shared.Shared.{Shared}
use Rattle.collector.specs.Collections.{figures_of}
use Rattle.collector.specs.Halts.{MayRefuse}
use Rattle.collector.proofs.collection.collect_alone.Goals as goal

pub returns-in_err-fill_left-clause-gate : goal.returns-in_err-fill_left-clause-gate
returns-in_err-fill_left-clause-gate g c is =
    let may : ℕ → ℕ → Type 0 = g.G.Gate.may_refuse c.args.gate.now in
    let made = c.in_ok-compaction.ensures in
    let compaction = c.in_ok-compaction.compaction in
    subst (λ (image : HeapImage). MayRefuse may 1 image) made.survey (subst (λ (n : ℕ). MayRefuse may n compaction.shared.survey) made.workers c.in_err-fill_left.ensures.fault.1)

pub returns-clause-image : goal.returns-clause-image
returns-clause-image g c = c.finish-ended.ensures.image ∙ ap compact (ap (λ (s : Shared _ _). s.survey) c.fill_left.ensures.shared ∙ c.in_ok-compaction.ensures.survey)

pub returns-clause-figures : goal.returns-clause-figures
returns-clause-figures g c = c.finish-ended.ensures.figures ∙ ap figures_of (ap (λ (s : Shared _ _). s.survey) c.fill_left.ensures.shared ∙ c.in_ok-compaction.ensures.survey)

pub returns-clause-legal : goal.returns-clause-legal
returns-clause-legal g c =
    let filled = c.fill_left.new.self in
    let log = history c.finish-ended.result.finished in
    let image : filled.shared.survey ≡ c.args.image = ap (λ (s : Shared _ _). s.survey) c.fill_left.ensures.shared ∙ c.in_ok-compaction.ensures.survey in
    let count : filled.workers.len ≡ 1 = c.fill_left.ensures.workers ∙ c.in_ok-compaction.ensures.workers in
    subst (λ (i : HeapImage). IsLegal (image_table i) 1 log) image (subst (λ (n : ℕ). IsLegal (image_table filled.shared.survey) n log) count c.finish-ended.ensures.legal)

pub returns-clause-once : goal.returns-clause-once
returns-clause-once g c =
    let image : c.fill_left.new.self.shared.survey ≡ c.args.image = ap (λ (s : Shared _ _). s.survey) c.fill_left.ensures.shared ∙ c.in_ok-compaction.ensures.survey in
    subst (λ (i : HeapImage). HasEachOnce (image_table i) (history c.finish-ended.result.finished)) image c.finish-ended.ensures.once
