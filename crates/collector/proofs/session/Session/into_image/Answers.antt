use Rattle.std.proofs.Common.{Bool, ◌≡◌, ◌<◌, ℕ, sym, subst, ap, ◌∙◌}
use Rattle.object_heap.specs.HeapImage.{HeapImage, region_count, block_of}
use Rattle.scheduler.specs.MoveTable.{region_count as regions_of}
use Rattle.claim_board.specs.RegionBoards.{moves}
use Rattle.std.specs.Option.{is_some}
use Rattle.fill.specs.KeptImages.{KeepsImage, Keeps}
use Rattle.collector.specs.Regions.{IsWithoutRegions}
use Rattle.collector.proofs.Lemmas.Kept.{moves_kept}
use Rattle.collector.proofs.session.Session.into_image.Goals as goal

pub with_regions-requires-clause-count : goal.with_regions-requires-clause-count
with_regions-requires-clause-count c =
    let image : HeapImage = c.args.self.shared.survey in
    let same : regions_of (moves c.args.self.shared.desk) ≡ region_count image = ap regions_of (moves_kept (is_some c.args.self.shared.parts) image c.args.self.shared.desk c.args.self.shared.keeps) ∙ c.moves_of_images.ensures.regions image in
    c.in_ok-regions.ensures.count ∙ (same ∙ ap (λ (i : HeapImage). region_count i) (sym c.plan.ensures))

pub with_regions-requires-clause-words : goal.with_regions-requires-clause-words
with_regions-requires-clause-words c r inside =
    let image : HeapImage = c.args.self.shared.survey in
    let same : regions_of (moves c.args.self.shared.desk) ≡ region_count image = ap regions_of (moves_kept (is_some c.args.self.shared.parts) image c.args.self.shared.desk c.args.self.shared.keeps) ∙ c.moves_of_images.ensures.regions image in
    let keeps : KeepsImage image c.args.self.shared.desk = subst (λ (redirects : Bool). Keeps redirects image c.args.self.shared.desk) (ap is_some c.in_ok-parts.was) c.args.self.shared.keeps in
    let here : r < region_count image = subst (λ (i : HeapImage). r < region_count i) c.plan.ensures inside in
    c.in_ok-regions.ensures.words r (subst (λ (n : ℕ). r < n) (sym same) here)
    ∙ (keeps.original r here ∙ ap (λ (i : HeapImage). block_of i r) (sym c.plan.ensures))

pub with_regions-requires-clause-parts : goal.with_regions-requires-clause-parts
with_regions-requires-clause-parts c = subst (λ (i : HeapImage). IsWithoutRegions i c.in_ok-parts.parts) (sym c.plan.ensures) (c.args.self.shared.rest c.in_ok-parts.parts c.in_ok-parts.was)
