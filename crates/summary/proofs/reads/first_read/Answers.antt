use Rattle.std.proofs.Common.{◌≡◌, ℕ, ◌*◌, ◌<◌, List, length, refl, sym, ◌∙◌, ap, subst, arith}
use Rattle.object_heap.specs.HeapImage.{HeapImage, start_of, region_count}
use Rattle.summary.specs.Reads.{BeginAt}
use Rattle.summary.specs.declared.region_data.RegionData.{RegionData}
use Rattle.summary.proofs.Lemmas.Regions.{region_at}
use Rattle.summary.proofs.Lemmas.SourceRows.{begin_in_prefix, begin_at_source, begin_nowhere, begin_out_of_range}
use Rattle.summary.proofs.reads.first_read.Goals as goal

-- a number below that of the regions
there : (image : HeapImage) (regions : List RegionData) (d : ℕ) → length regions ≡ region_count image → d < length regions → d < region_count image
there image regions d n l = omega arith

pub returns-then-from-region_words : goal.returns-then-from-region_words
returns-then-from-region_words c =
    let image = c.args.table.now in
    let start : c.from.result * c.region_words.result ≡ start_of image c.args.d = ap (λ n. n * c.region_words.result) c.from.ensures ∙ ap (λ n. c.args.d * n) c.region_words.ensures.value in
    let prefix = c.prefix_end.ensures.value in
    let low = c.if-from-region_words.true in
    begin_in_prefix image c.prefix_end.ensures.valid c.args.d (there c.args.table.now c.regions-regions.result.now c.args.d c.regions-regions.ensures.number c.if-d-regions.false) (omega arith)

pub returns-in-Some : goal.returns-in-Some
returns-in-Some c =
    let image = c.args.table.now in
    let is = c.source.ensures ∙ ap (λ (k : RegionData). k.source) (c.index-regions-d.is ∙ region_at image c.regions-regions.result.now c.regions-regions.ensures.data c.args.d c.args.d _ (there c.args.table.now c.regions-regions.result.now c.args.d c.regions-regions.ensures.number c.if-d-regions.false) refl) in
    begin_at_source image c.prefix_end.ensures.valid c.args.d c.in-Some.source (sym is ∙ c.in-Some.is)

pub returns-in-None : goal.returns-in-None
returns-in-None c =
    let image = c.args.table.now in
    let is = c.source.ensures ∙ ap (λ (k : RegionData). k.source) (c.index-regions-d.is ∙ region_at image c.regions-regions.result.now c.regions-regions.ensures.data c.args.d c.args.d _ (there c.args.table.now c.regions-regions.result.now c.args.d c.regions-regions.ensures.number c.if-d-regions.false) refl) in
    let start : c.from.result * c.region_words.result ≡ start_of image c.args.d = ap (λ n. n * c.region_words.result) c.from.ensures ∙ ap (λ n. c.args.d * n) c.region_words.ensures.value in
    let prefix = c.prefix_end.ensures.value in
    let high = c.if-from-region_words.false in
    subst (λ (n : ℕ). BeginAt image c.args.d n) (sym c.regions-regions.ensures.number) (begin_nowhere image c.prefix_end.ensures.valid c.args.d (omega arith) (sym is ∙ c.in-None.is))

pub returns-then-d-regions : goal.returns-then-d-regions
returns-then-d-regions c =
    let image = c.args.table.now in
    let number = c.regions-regions.ensures.number in
    let past = c.if-d-regions.true in
    subst (λ (n : ℕ). BeginAt image c.args.d n) (sym number) (begin_out_of_range image c.regions-regions.ensures.valid c.args.d (omega arith))
