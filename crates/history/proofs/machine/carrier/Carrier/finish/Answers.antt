use Rattle.std.proofs.Common.{◌≡◌, ℕ, List, ◌∙◌, ap, refl, sym, subst}
use Rattle.std.specs.Prelude.{map, option_map}
use Rattle.std.specs.List.{range_with_len}
use Rattle.object_heap.specs.Layout.{Own}
use Rattle.object_heap.specs.HeapImage.{HeapImage, IsValid, region_count}
use Rattle.summary.specs.Compaction.{compacted_word}
use Rattle.summary.specs.RegionData.{region_addresses}
use Rattle.history.proofs.machine.carrier.Carrier.finish.Goals as goal

-- the regions of the compacted image
abbrev blocks_of : HeapImage → List (List ℕ)
blocks_of image = map (λ r. map (compacted_word image) (region_addresses image r)) (range_with_len 0 (region_count image))

pub into_image-requires : goal.into_image-requires
into_image-requires c =
    let image : HeapImage = c.args.image.now in
    let valid = c.region_log.ensures.valid in
    let own = subst (λ (i : HeapImage). i.layout ≡ Own) c.requires.image c.requires.kept.own.layout in
    let blocks : c.in_ok-regions.regions.items ≡ blocks_of image = c.in_ok-regions.ensures ∙ ap blocks_of c.requires.image in
    let parts = c.plan_laws.ensures.parts-of_blocks image own c.version.result c.region_log.result c.allowance.result (region_count image) c.in_ok-regions.regions.items c.in_ok-live.live.items (option_map (λ v. v.items) c.in_ok-roots.roots) valid.limits.whole_regions c.version.ensures.value c.region_log.ensures.value c.allowance.ensures blocks refl c.in_ok-live.ensures c.in_ok-roots.ensures in
    record { regions = parts.0; valid = subst IsValid (sym parts.1) (c.plan_laws.ensures.compact-IsValid image valid) }

pub returns : goal.returns
returns c =
    let image : HeapImage = c.args.image.now in
    let valid = c.region_log.ensures.valid in
    let own = subst (λ (i : HeapImage). i.layout ≡ Own) c.requires.image c.requires.kept.own.layout in
    let blocks : c.in_ok-regions.regions.items ≡ blocks_of image = c.in_ok-regions.ensures ∙ ap blocks_of c.requires.image in
    let parts = c.plan_laws.ensures.parts-of_blocks image own c.version.result c.region_log.result c.allowance.result (region_count image) c.in_ok-regions.regions.items c.in_ok-live.live.items (option_map (λ v. v.items) c.in_ok-roots.roots) valid.limits.whole_regions c.version.ensures.value c.region_log.ensures.value c.allowance.ensures blocks refl c.in_ok-live.ensures c.in_ok-roots.ensures in
    c.into_image.ensures ∙ parts.1
