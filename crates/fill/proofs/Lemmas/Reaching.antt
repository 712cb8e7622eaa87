-- How much more of a region is written after another source.
use Rattle.std.proofs.Common.{◌≡◌, ℕ, ◌-◌, ◌^◌, ◌≤◌, ◌<◌, arith}
use Rattle.std.proofs.lemmas.Nat.{mul-le, pow_below}
use Rattle.object_heap.specs.HeapImage.{HeapImage, IsValid, region_words, region_count, start_of}
use Rattle.summary.specs.NewAddresses.{prefix_end}
use Rattle.summary.specs.PlanLaws.{PlanLaws}
use Rattle.fill.specs.CopiedWords.{written_to}
use Rattle.fill.proofs.Lemmas.Slides.{slid-monotone}
use Rattle.fill.proofs.Lemmas.WrittenTo.{source_behind, region_fits}

pub written_to-more : PlanLaws → (image : HeapImage) → IsValid image → (d from next to end : ℕ) → d < region_count image → prefix_end image ≤ start_of image d → d ≤ from → from ≤ next
    → to ≡ written_to image (start_of image d) (start_of image from) → end ≡ written_to image (start_of image d) (start_of image next) → (to ≤ end) × (end - to < 4294967296)
written_to-more law image valid d from next to end inside behind l m one two =
    let first = source_behind image valid d from l behind in
    let up : start_of image from ≤ start_of image next = mul-le from (region_words image) next (region_words image) m (omega arith) in
    let more = slid-monotone law image (start_of image from) (start_of image next) first up in
    let fits = region_fits image valid d inside in
    let high = valid.limits.region_log_high in
    let short : region_words image < 2 ^ 21 = pow_below image.region_log 21 (omega arith) in
    (omega arith, omega arith)
