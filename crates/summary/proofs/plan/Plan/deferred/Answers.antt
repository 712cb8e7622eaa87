use Rattle.std.proofs.Common.{◌≡◌, ℕ, ◌+◌, ◌-◌, ◌*◌, ◌<◌, List, length, map, sym, ◌∙◌, ap, subst, refl, arith}
use Rattle.std.proofs.lemmas.List.FromFn.{length-map-range_with_len, get_or-map-range_with_len}
use Rattle.std.specs.Prelude.{Some, slice_index_or}
use Rattle.std.specs.List.{range_with_len}
use Rattle.object_heap.specs.HeapImage.{HeapImage, region_count, start_of}
use Rattle.summary.specs.Plan.{place_in}
use Rattle.summary.specs.RegionData.{deferred}
use Rattle.summary.proofs.Lemmas.OutOfRange.{deferred-out_of_range, place-back}
use Rattle.summary.proofs.plan.Plan.deferred.Goals as goal

pub index-requires : goal.index-requires
index-requires c =
    let image = c.self.inside.table in
    let long = ap length c.self.invariant.deferred_are ∙ length-map-range_with_len (λ r. place_in image r (deferred image r)) 0 (region_count image) ∙ ap region_count c.self.view_is in
    let inside = c.if-d-regions.false in
    let n = c.regions.ensures.value in
    omega arith

pub returns-then-d-regions : goal.returns-then-d-regions
returns-then-d-regions c =
    let past = c.if-d-regions.true in
    let n = c.regions.ensures.value in
    sym (deferred-out_of_range c.args.self.now c.regions.ensures.valid c.args.d (omega arith))

-- the place that was read
read : (image now : HeapImage) (places : List ℕ) (d place : ℕ) → image ≡ now → places ≡ map (λ r. place_in image r (deferred image r)) (range_with_len 0 (region_count image))
    → d < region_count now → place ≡ slice_index_or places d place → place ≡ place_in now d (deferred now d)
read image now places d place same are inside is =
    let here : d < region_count image = subst (λ i. d < region_count i) (sym same) inside in
    is
    ∙ ap (λ (xs : List ℕ). slice_index_or xs d place) are
    ∙ get_or-map-range_with_len (λ r. place_in image r (deferred image r)) 0 (region_count image) d d place here (omega arith)
    ∙ ap (λ i. place_in i d (deferred i d)) same

pub returns-in-0 : goal.returns-in-0
returns-in-0 c =
    let now = c.args.self.now in
    let d = c.args.d in
    let low = c.if-d-regions.false in
    let n = c.regions.ensures.value in
    let is = read c.self.inside.table now c.self.inside.deferred.items d c.index.result.now c.self.view_is c.self.invariant.deferred_are (omega arith) c.index.ensures in
    (place-back now c.regions.ensures.valid.live_list d c.index.result.now (deferred now d) refl is).0 c.in-0.is

pub returns-in_default : goal.returns-in_default
returns-in_default c =
    let now = c.args.self.now in
    let d = c.args.d in
    let low = c.if-d-regions.false in
    let n = c.regions.ensures.value in
    let is = read c.self.inside.table now c.self.inside.deferred.items d c.index.result.now c.self.view_is c.self.invariant.deferred_are (omega arith) c.index.ensures in
    let some = c.in_default in
    let back = (place-back now c.regions.ensures.valid.live_list d c.index.result.now (deferred now d) refl is).1 (omega arith) in
    let start : c.from.result * c.region_words.result ≡ start_of now d = ap (λ m. m * c.region_words.result) c.from.ensures ∙ ap (λ m. d * m) c.region_words.ensures.value in
    let place = c.from-in_default.ensures in
    let same : c.from.result * c.region_words.result + c.from-in_default.result - 1 ≡ start_of now d + c.index.result.now - 1 = omega arith in
    ap Some same ∙ back
