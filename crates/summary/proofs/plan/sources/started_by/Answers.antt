use Rattle.std.proofs.Common.{◌≡◌, ◌+◌, ◌*◌, ap, sym, ◌∙◌, arith, subst}
use Rattle.std.proofs.lemmas.Grind.{div_ceil_times}
use Rattle.std.specs.Int.{div_ceil}
use Rattle.object_heap.specs.HeapImage.{region_words}
use Rattle.summary.specs.RegionData.{destination, data_words}
use Rattle.summary.specs.Sources.{StartsOnly}
use Rattle.summary.specs.declared.region_data.RegionData.{RegionData}
use Rattle.summary.proofs.Lemmas.RegionPlaces.{data-le}
use Rattle.summary.proofs.Lemmas.Regions.{region_some}
use Rattle.summary.proofs.Lemmas.Telling.{destination-le, starts-only, starts-none}
use Rattle.summary.proofs.plan.sources.started_by.Goals as goal

pub overflow_mul-d : goal.overflow_mul-d
overflow_mul-d c =
    let image = c.args.image.now in
    let n = c.region_words-region_words.ensures in
    let s = c.args.s in
    let to : c.destination-destination.result ≡ destination image s = c.destination-destination.ensures ∙ ap (λ (k : RegionData). k.destination) (sym c.requires.region) in
    let d : c.div_ceil-d.result ≡ div_ceil (destination image s) (region_words image) =
    c.div_ceil-d.ensures ∙ ap (λ m. div_ceil m c.region_words-region_words.result) to ∙ ap (div_ceil (destination image s)) n.value in
    let product : c.div_ceil-d.result * c.region_words-region_words.result ≡ div_ceil (destination image s) (region_words image) * region_words image =
    ap (λ m. m * c.region_words-region_words.result) d ∙ ap (λ m. div_ceil (destination image s) (region_words image) * m) n.value in
    let high = (div_ceil_times (destination image s) (region_words image) (region_some image)).1 in
    let low = destination-le image n.valid s c.requires.inside in
    let few = n.valid.limits.few_words in
    let small = n.few in
    let same = n.value in
    omega arith

pub overflow_add-destination : goal.overflow_add-destination
overflow_add-destination c =
    let image = c.args.image.now in
    let n = c.region_words-region_words.ensures in
    let s = c.args.s in
    let to : c.destination-destination.result ≡ destination image s = c.destination-destination.ensures ∙ ap (λ (k : RegionData). k.destination) (sym c.requires.region) in
    let words : c.words.result ≡ data_words image s = c.words.ensures ∙ ap (λ (k : RegionData). k.partial + k.live) (sym c.requires.region) in
    let low = destination-le image n.valid s c.requires.inside in
    let few_data = data-le image n.valid s in
    let few = n.valid.limits.few_words in
    let small = n.few in
    let same = n.value in
    omega arith

pub returns-then-destination-prefix : goal.returns-then-destination-prefix
returns-then-destination-prefix c =
    let image = c.args.image.now in
    let n = c.region_words-region_words.ensures in
    let s = c.args.s in
    let to : c.destination-destination.result ≡ destination image s = c.destination-destination.ensures ∙ ap (λ (k : RegionData). k.destination) (sym c.requires.region) in
    let prefix = c.requires.prefix in
    let below = c.if-destination-prefix.true in
    λ d. starts-none image n.valid s d (λ above _. let no : ⊥ = omega arith in no)

pub returns-then-d-region_words : goal.returns-then-d-region_words
returns-then-d-region_words c =
    let image = c.args.image.now in
    let n = c.region_words-region_words.ensures in
    let s = c.args.s in
    let to : c.destination-destination.result ≡ destination image s = c.destination-destination.ensures ∙ ap (λ (k : RegionData). k.destination) (sym c.requires.region) in
    let words : c.words.result ≡ data_words image s = c.words.ensures ∙ ap (λ (k : RegionData). k.partial + k.live) (sym c.requires.region) in
    let d : c.div_ceil-d.result ≡ div_ceil (destination image s) (region_words image) =
    c.div_ceil-d.ensures ∙ ap (λ m. div_ceil m c.region_words-region_words.result) to ∙ ap (div_ceil (destination image s)) n.value in
    let product : c.div_ceil-d.result * c.region_words-region_words.result ≡ div_ceil (destination image s) (region_words image) * region_words image =
    ap (λ m. m * c.region_words-region_words.result) d ∙ ap (λ m. div_ceil (destination image s) (region_words image) * m) n.value in
    let prefix = c.requires.prefix in
    let above = c.if-destination-prefix.false in
    let below = c.if-d-region_words.true in
    subst (StartsOnly image s) (sym d) (starts-only image n.valid s c.requires.inside (omega arith) (omega arith))

pub returns-else-d-region_words : goal.returns-else-d-region_words
returns-else-d-region_words c =
    let image = c.args.image.now in
    let n = c.region_words-region_words.ensures in
    let s = c.args.s in
    let to : c.destination-destination.result ≡ destination image s = c.destination-destination.ensures ∙ ap (λ (k : RegionData). k.destination) (sym c.requires.region) in
    let words : c.words.result ≡ data_words image s = c.words.ensures ∙ ap (λ (k : RegionData). k.partial + k.live) (sym c.requires.region) in
    let d : c.div_ceil-d.result ≡ div_ceil (destination image s) (region_words image) =
    c.div_ceil-d.ensures ∙ ap (λ m. div_ceil m c.region_words-region_words.result) to ∙ ap (div_ceil (destination image s)) n.value in
    let product : c.div_ceil-d.result * c.region_words-region_words.result ≡ div_ceil (destination image s) (region_words image) * region_words image =
    ap (λ m. m * c.region_words-region_words.result) d ∙ ap (λ m. div_ceil (destination image s) (region_words image) * m) n.value in
    let past = c.if-d-region_words.false in
    λ d'. starts-none image n.valid s d' (λ _ below. let no : ⊥ = omega arith in no)
