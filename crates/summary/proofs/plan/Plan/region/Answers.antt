use Rattle.std.proofs.Common.{◌<◌, refl, sym, ◌∙◌, ap, subst}
use Rattle.object_heap.specs.HeapImage.{region_count}
use Rattle.summary.specs.RegionData.{region_data}
use Rattle.summary.proofs.Lemmas.Regions.{region_at}
use Rattle.summary.proofs.plan.Plan.region.Goals as goal

pub returns : goal.returns
returns c =
    let image = c.self.inside.table in
    let inside = subst (λ i. c.args.r < region_count i) (sym c.self.view_is) c.requires in
    c.to_data.ensures ∙ c.index-regions-r.is ∙ region_at image c.regions.result.now c.regions.ensures.data c.args.r c.args.r _ inside refl ∙ ap (λ i. region_data i c.args.r) c.self.view_is
