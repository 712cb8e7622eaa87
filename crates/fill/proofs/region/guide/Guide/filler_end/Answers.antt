use Rattle.std.proofs.Common.{◌≤◌, subst, arith}
use Rattle.object_heap.specs.HeapImage.{HeapImage, IsValid, heap_words}
use Rattle.fill.proofs.region.guide.Guide.filler_end.Goals as goal

pub filler_limit-limit-requires : goal.filler_limit-limit-requires
filler_limit-limit-requires c =
    let image : HeapImage = c.args.self.now in
    let valid : IsValid image = subst IsValid c.self.view_is c.planned_image_is_valid.ensures in
    let few : heap_words image ≤ 68719476736 = valid.limits.few_words in
    let low = c.regions_to_fill.ensures.prefix image valid.live_list in
    let top = c.regions_to_fill.ensures.top image valid.live_list in
    let below = c.requires.below in
    omega arith
