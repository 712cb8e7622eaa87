use Rattle.std.proofs.Common.{◌≡◌, ◌∙◌, ◌<◌, ◌*◌, ℕ, ap, ap₂, subst, arith}
use Rattle.object_heap.specs.HeapImage.{HeapImage, IsValid, heap_words, live_words, region_count, region_words}
use Rattle.summary.specs.NewAddresses.{new_top, prefix_end}
use Rattle.summary.specs.RegionData.{fill_count}
use Rattle.heap_map.proofs.figures.MapFigures.of.Goals as goal

whole : (image : HeapImage) → IsValid image → 0 < region_words image → region_count image * region_words image ≡ heap_words image
whole image valid some = let h = valid.limits.whole_regions in omega arith

pub overflow_sub-result : goal.overflow_sub-result
overflow_sub-result c =
    let image : HeapImage = c.args.survey.now in
    let same = c.plan-plan.ensures in
    let valid : IsValid image = subst IsValid same c.regions.ensures.valid in
    let words : c.from.result * c.region_words.result ≡ heap_words image =
    ap₂ (λ (a b : ℕ). a * b) (c.from.ensures ∙ c.regions.ensures.value ∙ ap region_count same) (c.region_words.ensures.value ∙ ap region_words same) ∙ whole image valid (subst (λ h. 0 < region_words h) same (subst (λ n. 0 < n) c.region_words.ensures.value c.region_words.ensures.some)) in
    let all = c.dead_words_by_region.ensures.live image (c.from.result * c.region_words.result) in
    omega (arith, all, c.live_words-live.ensures ∙ ap (λ h. live_words h 0 (c.from.result * c.region_words.result)) c.marks.ensures)

pub returns : goal.returns
returns c =
    let image : HeapImage = c.args.survey.now in
    let same = c.plan-plan.ensures in
    let valid : IsValid image = subst IsValid same c.regions.ensures.valid in
    let words : c.from.result * c.region_words.result ≡ heap_words image =
    ap₂ (λ (a b : ℕ). a * b) (c.from.ensures ∙ c.regions.ensures.value ∙ ap region_count same) (c.region_words.ensures.value ∙ ap region_words same) ∙ whole image valid (subst (λ h. 0 < region_words h) same (subst (λ n. 0 < n) c.region_words.ensures.value c.region_words.ensures.some)) in
    let all = c.dead_words_by_region.ensures.live image (heap_words image) in
    let live : c.live_words-live.result ≡ live_words image 0 (heap_words image) = c.live_words-live.ensures ∙ ap (λ h. live_words h 0 (c.from.result * c.region_words.result)) c.marks.ensures ∙ ap (live_words image 0) words in
    record {
      words = words;
      live = live;
      dead = omega (arith, all, live, words);
      prefix_end = c.prefix_end.ensures.value ∙ ap prefix_end same;
      new_top = c.new_top.ensures ∙ ap new_top same;
      filled = c.fill_regions.ensures ∙ ap fill_count same;
    }
