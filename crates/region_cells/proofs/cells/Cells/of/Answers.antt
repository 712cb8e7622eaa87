use Rattle.std.proofs.Common.{◌≤◌, length, ap, sym, subst, ◌∙◌, arith}
use Rattle.std.proofs.lemmas.List.FromFn.{length-map-range_with_len}
use Rattle.std.specs.Vec.{vec_capacity}
use Rattle.object_heap.specs.HeapImage.{IsValid, region_count, block_of}
use Rattle.summary.specs.RegionData.{fill_count}
use Rattle.region_cells.specs.Blocks.{blocks_of}
use Rattle.region_cells.specs.Cells.{places, other_blocks, AreOtherParts}
use Rattle.heap_image.specs.declared.image.ImageParts.{ImageParts}
use Rattle.region_cells.proofs.Lemmas.Images.{image_in-cells, other_parts}
use Rattle.region_cells.proofs.cells.Cells.of.Goals as goal

pub put_all-requires-clause-valid : goal.put_all-requires-clause-valid
put_all-requires-clause-valid c = subst IsValid (c.requires.same ∙ sym (ap (λ p. p.image) c.first-first.ensures)) c.planned_image_is_valid.ensures

pub put_all-requires-clause-regions : goal.put_all-requires-clause-regions
put_all-requires-clause-regions c = c.into_parts-parts.ensures.blocks ∙ ap blocks_of (sym (ap (λ p. p.image) c.first-first.ensures))

pub put_all-requires-clause-count : goal.put_all-requires-clause-count
put_all-requires-clause-count c = c.fill_regions-count.ensures ∙ ap fill_count (c.requires.same ∙ sym (ap (λ p. p.image) c.first-first.ensures))

pub put_all-requires-clause-few : goal.put_all-requires-clause-few
put_all-requires-clause-few c =
    let few : c.fill_regions-count.result ≤ region_count c.args.plan.now =
    subst (λ n. n ≤ region_count c.args.plan.now) (sym c.fill_regions-count.ensures) (c.regions_to_fill.ensures.few c.args.plan.now c.planned_image_is_valid.ensures) in
    subst (λ i. c.fill_regions-count.result ≤ region_count i) (c.requires.same ∙ sym (ap (λ p. p.image) c.first-first.ensures)) few

pub invariant_of-result : goal.invariant_of-result
invariant_of-result c =
    let image = c.args.image in
    let valid : IsValid image = subst IsValid c.requires.same c.planned_image_is_valid.ensures in
    let whole = c.into_parts-parts.ensures.whole in
    let first = ap (λ p. p.image) c.first-first.ensures in
    let made = c.into_parts-parts.result in
    let parts : ImageParts =
    record { version = made.version; region_log = made.region_log; allowance = made.allowance; regions = c.put_all.new.regions; live = made.live; roots = made.roots } in
    let slots_are = c.put_all.ensures.slots ∙ ap places first in
    let room : region_count image ≤ vec_capacity parts.regions =
    omega (arith, c.put_all.ensures.capacity, made.regions.ok, ap length c.into_parts-parts.ensures.blocks, length-map-range_with_len (block_of image) 0 (region_count image)) in
    let others : AreOtherParts image parts = other_parts image parts made.regions.items whole (c.put_all.ensures.others ∙ ap other_blocks first) room in
    let image_is = image_in-cells image valid c.put_all.new.slots.items parts slots_are others in
    rw image_is (record { valid = valid; slots_are = slots_are; parts_are = others })

pub returns-clause-cells : goal.returns-clause-cells
returns-clause-cells c =
    let image = c.args.image in
    let valid : IsValid image = subst IsValid c.requires.same c.planned_image_is_valid.ensures in
    let whole = c.into_parts-parts.ensures.whole in
    let first = ap (λ p. p.image) c.first-first.ensures in
    let made = c.into_parts-parts.result in
    let parts : ImageParts =
    record { version = made.version; region_log = made.region_log; allowance = made.allowance; regions = c.put_all.new.regions; live = made.live; roots = made.roots } in
    let slots_are = c.put_all.ensures.slots ∙ ap places first in
    let room : region_count image ≤ vec_capacity parts.regions =
    omega (arith, c.put_all.ensures.capacity, made.regions.ok, ap length c.into_parts-parts.ensures.blocks, length-map-range_with_len (block_of image) 0 (region_count image)) in
    let others : AreOtherParts image parts = other_parts image parts made.regions.items whole (c.put_all.ensures.others ∙ ap other_blocks first) room in
    image_in-cells image valid c.put_all.new.slots.items parts slots_are others
