use Rattle.std.proofs.Common.{◌≡◌, length, ap, sym, subst, ◌∙◌, arith}
use Rattle.object_heap.specs.HeapImage.{IsValid, AreBlocks}
use Rattle.region_cells.specs.Blocks.{blocks_of}
use Rattle.region_cells.specs.Cells.{image_in}
use Rattle.region_cells.proofs.Lemmas.Blocks.{originals_again}
use Rattle.region_cells.proofs.Lemmas.Places.{length-places, length-others}
use Rattle.region_cells.proofs.Lemmas.Whole.{are_blocks}
use Rattle.region_cells.proofs.Lemmas.Images.{image_again}
use Rattle.region_cells.proofs.cells.Cells.into_image.Goals as goal

pub put_back-requires-clause-few : goal.put_back-requires-clause-few
put_back-requires-clause-few c =
    let image = image_in c.self.inside.slots.items c.self.inside.parts in
    let cells = c.self.invariant in
    omega (arith, ap length cells.slots_are, length-places image, c.regions_to_fill.ensures.few image cells.valid, cells.valid.limits.few_regions)

pub put_back-requires-clause-room : goal.put_back-requires-clause-room
put_back-requires-clause-room c =
    let image = image_in c.self.inside.slots.items c.self.inside.parts in
    let cells = c.self.invariant in
    omega (arith, ap length cells.slots_are, length-places image, ap length cells.parts_are.regions, length-others image, c.self.inside.parts.regions.ok.0, c.regions_to_fill.ensures.few image cells.valid, cells.parts_are.room)

pub into_image-requires-clause-regions : goal.into_image-requires-clause-regions
into_image-requires-clause-regions c =
    let image = image_in c.self.inside.slots.items c.self.inside.parts in
    let cells = c.self.invariant in
    let few = c.regions_to_fill.ensures.few image cells.valid in
    let blocks : c.put_back.new.regions.items ≡ blocks_of image =
    originals_again image few c.self.inside.slots.items c.self.inside.parts.regions.items c.put_back.new.regions.items cells.slots_are cells.parts_are.regions c.in-Ok.ensures.regions in
    subst (AreBlocks c.self.inside.parts.region_log) (sym blocks) (subst (λ l. AreBlocks l (blocks_of image)) (sym cells.parts_are.region_log) (are_blocks image cells.valid))

pub into_image-requires-clause-valid : goal.into_image-requires-clause-valid
into_image-requires-clause-valid c =
    let image = image_in c.self.inside.slots.items c.self.inside.parts in
    let cells = c.self.invariant in
    let parts = c.self.inside.parts in
    let others = cells.parts_are in
    let few = c.regions_to_fill.ensures.few image cells.valid in
    let blocks : c.put_back.new.regions.items ≡ blocks_of image =
    originals_again image few c.self.inside.slots.items parts.regions.items c.put_back.new.regions.items cells.slots_are others.regions c.in-Ok.ensures.regions in
    let same = image_again image cells.valid parts c.put_back.new.regions.items others blocks in
    subst IsValid (sym same) cells.valid

pub returns-in-Ok : goal.returns-in-Ok
returns-in-Ok c =
    let image = image_in c.self.inside.slots.items c.self.inside.parts in
    let cells = c.self.invariant in
    let parts = c.self.inside.parts in
    let others = cells.parts_are in
    let few = c.regions_to_fill.ensures.few image cells.valid in
    let blocks : c.put_back.new.regions.items ≡ blocks_of image =
    originals_again image few c.self.inside.slots.items parts.regions.items c.put_back.new.regions.items cells.slots_are others.regions c.in-Ok.ensures.regions in
    let same = image_again image cells.valid parts c.put_back.new.regions.items others blocks in
    c.into_image.ensures ∙ same ∙ c.self.view_is
