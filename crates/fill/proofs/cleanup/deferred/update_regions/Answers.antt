use Rattle.std.proofs.Common.{◌≡◌, ◌+◌, ℕ, length, ◌∙◌, ap, arith}
use Rattle.object_heap.specs.HeapImage.{HeapImage, HasLiveList}
use Rattle.fill.specs.MovedHeap.{words_from, is_late_before}
use Rattle.fill.proofs.Lemmas.Parts.{part_form, part_words, part_late}
use Rattle.fill.proofs.cleanup.deferred.update_regions.Goals as goal

pub loop-d-init : goal.loop-d-init
loop-d-init c =
    let image : HeapImage = c.args.plan.now in
    record {
      heap = part_form image c.planned_image_is_valid.ensures c.args.first c.args.regions.now c.requires;
      words = part_words image c.args.first c.args.regions.now c.requires;
    }

pub returns : goal.returns
returns c =
    let image : HeapImage = c.args.plan.now in
    let sound : HasLiveList image = c.planned_image_is_valid.ensures.live_list in
    let first : ℕ = c.args.first in
    let count : ℕ = length c.args.regions.now in
    let same : length c.loop-d.regions ≡ count = c.loop-d.auto.regions in
    let last : c.loop-d.d ≡ first + count = omega (arith, c.loop-d.auto.d, c.loop-d.auto.d-end, c.loop-d-test.false) in
    record {
      whole = c.loop-d.invariant.heap.whole;
      words = c.loop-d.invariant.words
          ∙ ap (λ n. words_from image first n (is_late_before image c.loop-d.d)) same
          ∙ ap (λ d. words_from image first count (is_late_before image d)) last
          ∙ part_late image first count (λ p. c.update_then_clear.ensures.late image sound p) (λ p. c.update_then_clear.ensures.are_late image sound p)
          (λ d x h. (c.one_deferred_object.ensures.object image sound d x h).4);
    }
