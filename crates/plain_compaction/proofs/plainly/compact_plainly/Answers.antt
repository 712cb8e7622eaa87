use Rattle.std.proofs.Common.{◌≡◌, [], ◌∷◌, ◌++◌, ◌∙◌, ap, sym, subst, arith, zero-add}
use Rattle.std.proofs.lemmas.List.FromFn.{map-range_with_len_more}
use Rattle.std.specs.Prelude.{map, option_map}
use Rattle.std.specs.List.{range_with_len}
use Rattle.object_heap.specs.HeapImage.{IsValid, region_count}
use Rattle.summary.specs.Compaction.{compacted_word}
use Rattle.summary.specs.RegionData.{region_addresses}
use Rattle.plain_compaction.proofs.plainly.compact_plainly.Goals as goal

pub loop-r-preserved : goal.loop-r-preserved
loop-r-preserved c =
    let image = c.args.image.now in
    c.in_ok-push.ensures.items
    ∙ ap (λ bs. bs ++ c.in_ok-compacted_region.field-0 ∷ []) c.loop-r.invariant
    ∙ ap (λ b. map (λ r. map (compacted_word image) (region_addresses image r)) (range_with_len 0 c.loop-r.r) ++ b ∷ []) c.in_ok-compacted_region.ensures
    ∙ sym (map-range_with_len_more (λ r. map (compacted_word image) (region_addresses image r)) 0 c.loop-r.r c.loop-r.r (zero-add c.loop-r.r))

pub into_image-requires : goal.into_image-requires
into_image-requires c =
    let image = c.args.image.now in
    let valid = c.region_log.ensures.valid in
    let all : c.loop-r.r ≡ region_count image = let low = c.loop-r-test.false in let high = c.loop-r.auto.r-end in let is = c.regions-r-end.ensures.value in omega arith in
    let parts = c.plan_laws.ensures.parts-of_blocks image c.image_is_own.ensures.layout c.version.result c.region_log.result c.allowance.result c.loop-r.r c.loop-r.regions.items c.in_ok-places.places.new_live.items (option_map (λ v. v.items) c.in_ok-roots.roots) valid.limits.whole_regions c.version.ensures.value c.region_log.ensures.value c.allowance.ensures c.loop-r.invariant all c.in_ok-places.ensures.live c.in_ok-roots.ensures in
    record { regions = parts.0; valid = subst IsValid (sym parts.1) (c.plan_laws.ensures.compact-IsValid image valid) }

pub returns : goal.returns
returns c =
    let image = c.args.image.now in
    let valid = c.region_log.ensures.valid in
    let all : c.loop-r.r ≡ region_count image = let low = c.loop-r-test.false in let high = c.loop-r.auto.r-end in let is = c.regions-r-end.ensures.value in omega arith in
    let parts = c.plan_laws.ensures.parts-of_blocks image c.image_is_own.ensures.layout c.version.result c.region_log.result c.allowance.result c.loop-r.r c.loop-r.regions.items c.in_ok-places.places.new_live.items (option_map (λ v. v.items) c.in_ok-roots.roots) valid.limits.whole_regions c.version.ensures.value c.region_log.ensures.value c.allowance.ensures c.loop-r.invariant all c.in_ok-places.ensures.live c.in_ok-roots.ensures in
    c.into_image.ensures ∙ parts.1
