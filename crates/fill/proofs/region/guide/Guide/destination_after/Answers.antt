use Rattle.std.proofs.Common.{◌≡◌, ◌+◌, ◌≤◌, ℕ, ◌∙◌, ap, subst, arith}
use Rattle.object_heap.specs.HeapImage.{HeapImage, IsValid, heap_words, region_words, start_of}
use Rattle.summary.specs.WordMoves.{slid}
use Rattle.summary.specs.RegionData.{region_data, partial_words, own_words}
use Rattle.fill.proofs.Lemmas.Slides.{slid-from}
use Rattle.fill.proofs.Lemmas.WrittenTo.{region_fits}
use Rattle.fill.proofs.region.guide.Guide.destination_after.Goals as goal
use Rattle.fill.proofs.region.guide.Guide.destination_after.Goals.{After-from-2}

sum_is : (c : After-from-2) → c.destination.result + c.from.result + c.from-2.result ≡ slid c.args.self.now (start_of c.args.self.now c.args.r + region_words c.args.self.now)
sum_is c =
    let image : HeapImage = c.args.self.now in
    let r : ℕ = c.args.r in
    let valid : IsValid image = subst IsValid c.self.view_is c.planned_image_is_valid.ensures in
    let told = c.region-data.ensures ∙ ap (λ i. region_data i r) c.self.view_is in
    let partial : c.from.result ≡ partial_words image r = c.from.ensures ∙ ap (λ d. d.partial) told in
    let own : c.from-2.result ≡ own_words image r = c.from-2.ensures ∙ ap (λ d. d.live) told in
    let counted = c.region_data_by_words.ensures.counted image valid.live_list r in
    let goes : c.destination.result ≡ slid image (start_of image r) = c.destination.ensures in
    let all = slid-from c.plan_laws.ensures image (start_of image r) (start_of image r + region_words image) c.requires.after_prefix (omega arith) in
    omega arith

pub overflow_add-result : goal.overflow_add-result
overflow_add-result c =
    let image : HeapImage = c.args.self.now in
    let r : ℕ = c.args.r in
    let valid : IsValid image = subst IsValid c.self.view_is c.planned_image_is_valid.ensures in
    let fits = region_fits image valid r c.requires.inside in
    let few : heap_words image ≤ 68719476736 = valid.limits.few_words in
    let down = c.plan_laws.ensures.slid-le image (start_of image r) in
    let goes : c.destination.result ≡ slid image (start_of image r) = c.destination.ensures in
    let told = c.region-data.ensures ∙ ap (λ i. region_data i r) c.self.view_is in
    let partial : c.from.result ≡ partial_words image r = c.from.ensures ∙ ap (λ d. d.partial) told in
    let counted = c.region_data_by_words.ensures.counted image valid.live_list r in
    let most = c.plan_laws.ensures.live_words-le image (start_of image r) (start_of image r + region_words image) in
    omega arith

pub overflow_add-result-2 : goal.overflow_add-result-2
overflow_add-result-2 c =
    let image : HeapImage = c.args.self.now in
    let valid : IsValid image = subst IsValid c.self.view_is c.planned_image_is_valid.ensures in
    let fits = region_fits image valid c.args.r c.requires.inside in
    let few : heap_words image ≤ 68719476736 = valid.limits.few_words in
    let down = c.plan_laws.ensures.slid-le image (start_of image c.args.r + region_words image) in
    let sum = sum_is c in
    omega arith

pub returns : goal.returns
returns c = sum_is c
