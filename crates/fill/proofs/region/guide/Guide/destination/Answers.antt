use Rattle.std.proofs.Common.{ℕ, ◌∙◌, ap, subst, arith}
use Rattle.object_heap.specs.HeapImage.{HeapImage, IsValid}
use Rattle.summary.specs.RegionData.{region_data}
use Rattle.fill.proofs.Lemmas.WrittenTo.{region_fits, destination-slid}
use Rattle.fill.proofs.region.guide.Guide.destination.Goals as goal

pub returns : goal.returns
returns c =
    let image : HeapImage = c.args.self.now in
    let r : ℕ = c.args.r in
    let valid : IsValid image = subst IsValid c.self.view_is c.planned_image_is_valid.ensures in
    let fits = region_fits image valid r c.requires.inside in
    let told = c.region.ensures ∙ ap (λ i. region_data i r) c.self.view_is in
    ap (λ d. d.destination) told ∙ destination-slid c.plan_laws.ensures image valid r c.requires.after_prefix (omega arith)
