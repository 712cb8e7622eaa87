use Rattle.std.proofs.Common.{◌≡◌, ◌≤◌, ap, arith}
use Rattle.object_heap.specs.HeapImage.{HeapImage, IsValid}
use Rattle.summary.specs.RegionData.{destination, partial_words, own_words}
use Rattle.history.proofs.Lemmas.CopiedOut.{IsRead, is_read}
use Rattle.history.proofs.machine.ledger.taken_up_to.Goals as goal

pub region-region-requires : goal.region-region-requires
region-region-requires c = (is_read c.plan_laws.ensures c.args.plan.now c.region_words-size.ensures.valid (c.moves_of_images.ensures.reads c.args.plan.now c.region_words-size.ensures.valid) c.args.destination c.args.source c.requires).inside

pub overflow_add-end : goal.overflow_add-end
overflow_add-end c =
    let image : HeapImage = c.args.plan.now in
    let valid : IsValid image = c.region_words-size.ensures.valid in
    let is : IsRead image c.args.destination c.args.source = is_read c.plan_laws.ensures image valid (c.moves_of_images.ensures.reads image valid) c.args.destination c.args.source c.requires in
    let to : destination image c.args.source ≤ _ = c.plan_laws.ensures.destination-le image valid c.args.source is.inside in
    let fit = c.plan_laws.ensures.data-le image valid.live_list c.args.source in
    let few = valid.limits.few_words in
    let e = c.region-region.ensures in
    let d : c.region-region.result.destination ≡ destination image c.args.source = ap (λ r. r.destination) e in
    let p : c.region-region.result.partial ≡ partial_words image c.args.source = ap (λ r. r.partial) e in
    omega arith

pub overflow_add-end-2 : goal.overflow_add-end-2
overflow_add-end-2 c =
    let image : HeapImage = c.args.plan.now in
    let valid : IsValid image = c.region_words-size.ensures.valid in
    let is : IsRead image c.args.destination c.args.source = is_read c.plan_laws.ensures image valid (c.moves_of_images.ensures.reads image valid) c.args.destination c.args.source c.requires in
    let to : destination image c.args.source ≤ _ = c.plan_laws.ensures.destination-le image valid c.args.source is.inside in
    let fit = c.plan_laws.ensures.data-le image valid.live_list c.args.source in
    let few = valid.limits.few_words in
    let e = c.region-region.ensures in
    let d : c.region-region.result.destination ≡ destination image c.args.source = ap (λ r. r.destination) e in
    let p : c.region-region.result.partial ≡ partial_words image c.args.source = ap (λ r. r.partial) e in
    let l : c.region-region.result.live ≡ own_words image c.args.source = ap (λ r. r.live) e in
    omega arith
