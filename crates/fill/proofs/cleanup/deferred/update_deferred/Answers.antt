use Rattle.std.proofs.Common.{◌≡◌, List, ℕ, ap, sym, subst, ◌∙◌}
use Rattle.std.specs.List.{concat}
use Rattle.object_heap.specs.HeapImage.{HeapImage}
use Rattle.summary.specs.NewAddresses.{new_top}
use Rattle.summary.specs.Compaction.{compact}
use Rattle.fill.specs.MovedHeap.{moved_regions, updated_words, cleared}
use Rattle.fill.proofs.cleanup.deferred.update_deferred.Goals as goal

pub returns-clause-updated : goal.returns-clause-updated
returns-clause-updated g c =
    let done : List (List ℕ) = c.update.new.regions in
    subst (λ (image : HeapImage). concat done ≡ updated_words image) c.plan-plan.ensures
    (c.whole_heap.ensures.updated c.args.regions.now done (subst (λ (image : HeapImage). c.args.regions.now ≡ moved_regions image) (sym c.plan-plan.ensures) c.requires.moved) c.update.ensures)

pub returns-clause-compacted : goal.returns-clause-compacted
returns-clause-compacted g c =
    let done : List (List ℕ) = c.update.new.regions in
    subst (λ (image : HeapImage). cleared (new_top image) (concat done) ≡ (compact image).words) c.plan-plan.ensures
    (ap (cleared (new_top c.plan-plan.result.now)) (c.whole_heap.ensures.updated c.args.regions.now done (subst (λ (image : HeapImage). c.args.regions.now ≡ moved_regions image) (sym c.plan-plan.ensures) c.requires.moved) c.update.ensures)
    ∙ c.whole_heap.ensures.compacted)
