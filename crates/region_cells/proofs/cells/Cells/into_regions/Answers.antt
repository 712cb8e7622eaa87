use Rattle.std.proofs.Common.{length, ap, subst, refl, arith}
use Rattle.region_cells.specs.Cells.{image_in, AreCells}
use Rattle.region_cells.proofs.Lemmas.Blocks.{block_left, moved_again}
use Rattle.region_cells.proofs.Lemmas.Places.{length-places, length-others}
use Rattle.region_cells.proofs.cells.Cells.into_regions.Goals as goal

pub put_back-requires-clause-few : goal.put_back-requires-clause-few
put_back-requires-clause-few c =
    let image = image_in c.self.inside.slots.items c.self.inside.parts in
    let cells = c.self.invariant in
    omega (arith, ap length cells.slots_are, length-places image, c.regions_to_fill.ensures.few image cells.valid, cells.valid.limits.few_regions)

pub put_back-requires-clause-room : goal.put_back-requires-clause-room
put_back-requires-clause-room c =
    let image = image_in c.self.inside.slots.items c.self.inside.parts in
    let cells = c.self.invariant in
    omega (arith, ap length cells.slots_are, length-places image, ap length cells.parts_are.regions, length-others image, c.self.inside.parts.regions.ok.0, c.regions_to_fill.ensures.few image cells.valid, cells.parts_are.room)

pub returns-in-Ok-clause-regions : goal.returns-in-Ok-clause-regions
returns-in-Ok-clause-regions c =
    let self = c.args.self in
    let cells = subst (λ i. AreCells i c.self.inside.slots.items c.self.inside.parts) c.self.view_is c.self.invariant in
    let few = c.regions_to_fill.ensures.few self cells.valid in
    let laws = c.blocks_of_regions.ensures in
    moved_again self few c.self.inside.slots.items c.self.inside.parts.regions.items c.put_back.new.regions.items cells.slots_are cells.parts_are.regions c.in-Ok.ensures.regions (λ r after inside.
    block_left self r (c.regions_to_fill.ensures.count self r) (laws.moved self r inside) (λ above. laws.kept self r above inside) after)

pub returns-in-Err-clause-fault : goal.returns-in-Err-clause-fault
returns-in-Err-clause-fault c =
    let self = c.args.self in
    let cells = subst (λ i. AreCells i c.self.inside.slots.items c.self.inside.parts) c.self.view_is c.self.invariant in
    let few = c.regions_to_fill.ensures.few self cells.valid in
    (c.in-Err.region, omega (arith, c.in-Err.ensures.number, ap length cells.slots_are, length-places self, few), refl)
