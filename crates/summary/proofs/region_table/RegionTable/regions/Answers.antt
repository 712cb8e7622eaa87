use Rattle.std.proofs.Common.{◌∙◌, ap, length}
use Rattle.object_heap.specs.HeapImage.{region_count}
use Rattle.std.proofs.lemmas.List.FromFn.{length-map-range_with_len}
use Rattle.summary.specs.RegionData.{region_data}
use Rattle.summary.proofs.region_table.RegionTable.regions.Goals as goal

pub returns-clause-number : goal.returns-clause-number
returns-clause-number c =
    let image = c.self.inside.image.value in
    ap length c.as_slice.ensures.value
    ∙ ap length c.self.invariant.regions_are
    ∙ length-map-range_with_len (region_data image) 0 (region_count image)
    ∙ ap region_count c.self.view_is
