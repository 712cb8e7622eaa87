use Rattle.std.proofs.Common.{◌≡◌, ◌-◌, ◌<◌, [], length, get_or, ap, ◌∙◌, refl, arith}
use Rattle.std.proofs.lemmas.List.{get_or_read_under}
use Rattle.object_heap.specs.HeapImage.{region_count}
use Rattle.summary.specs.RegionData.{fill_count}
use Rattle.region_cells.specs.Cells.{image_in, other_blocks}
use Rattle.region_cells.proofs.Lemmas.Places.{length-places, length-others, other-at}
use Rattle.region_cells.proofs.cells.Cells.other_region.Goals as goal

pub overflow_sub-region : goal.overflow_sub-region
overflow_sub-region c =
    let s = c.self.inside in
    let cells : length s.slots.items ≡ fill_count c.args.self.now = ap length c.self.invariant.slots_are ∙ length-places (image_in s.slots.items s.parts) ∙ ap fill_count c.self.view_is in
    omega (arith, c.len.ensures, s.slots.ok.0, cells, c.requires.other)

pub index-requires : goal.index-requires
index-requires c =
    let s = c.self.inside in
    let cells : length s.slots.items ≡ fill_count c.args.self.now = ap length c.self.invariant.slots_are ∙ length-places (image_in s.slots.items s.parts) ∙ ap fill_count c.self.view_is in
    let others : length s.parts.regions.items ≡ region_count c.args.self.now - fill_count c.args.self.now =
    ap length c.self.invariant.parts_are.regions ∙ length-others (image_in s.slots.items s.parts) ∙ ap (λ i. region_count i - fill_count i) c.self.view_is in
    omega (arith, c.len.ensures, s.slots.ok.0, s.parts.regions.ok.0, cells, others, c.requires.other, c.requires.inside)

pub returns : goal.returns
returns c =
    let s = c.self.inside in
    let image = c.args.self.now in
    let i = c.args.region - c.len.result in
    let cells : length s.slots.items ≡ fill_count image = ap length c.self.invariant.slots_are ∙ length-places (image_in s.slots.items s.parts) ∙ ap fill_count c.self.view_is in
    let regions = c.self.invariant.parts_are.regions ∙ ap other_blocks c.self.view_is in
    let others : length s.parts.regions.items ≡ region_count image - fill_count image = ap length regions ∙ length-others image in
    let below : i < length s.parts.regions.items = omega (arith, c.len.ensures, s.slots.ok.0, cells, others, c.requires.other, c.requires.inside) in
    get_or_read_under s.parts.regions.items i (length s.parts.regions.items) c.index.result.now [] c.index.ensures below refl
    ∙ ap (λ l. get_or l i []) regions
    ∙ other-at image i c.args.region [] (omega (arith, c.len.ensures, s.slots.ok.0, cells, c.requires.other)) c.requires.inside
