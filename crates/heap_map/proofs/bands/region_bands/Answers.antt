use Rattle.std.proofs.Common.{◌≡◌, ◌∙◌, ◌++◌, ◌∷◌, [], List, ap, append-nil, append_assoc, arith, sym, zero-add}
use Rattle.std.proofs.lemmas.List.FromFn.{map-range_with_len_more}
use Rattle.std.specs.Prelude.{map}
use Rattle.std.specs.List.{range_with_len}
use Rattle.object_heap.specs.HeapImage.{HeapImage}
use Rattle.heap_map.specs.declared.band.Band.{Band}
use Rattle.heap_map.specs.Bands.{prefix_bands, regions_band}
use Rattle.heap_map.proofs.Lemmas.Bands.{ceil_few}
use Rattle.heap_map.proofs.bands.region_bands.Goals as goal

pub regions_band-requires-clause-few : goal.regions_band-requires-clause-few
regions_band-requires-clause-few c =
    let few = ceil_few c.words_above-above.result c.band_words-each.result in
    omega (arith, few, c.words_above-above.ensures.few, c.loop-i-test.true, c.div_ceil-i-end.ensures)

pub loop-i-init : goal.loop-i-init
loop-i-init c =
    let image : HeapImage = c.args.image.now in
    c.in_ok-bands.ensures ∙ ap (λ (heap : HeapImage). prefix_bands heap) c.requires.same ∙ sym (append-nil (prefix_bands image))

pub loop-i-preserved : goal.loop-i-preserved
loop-i-preserved c =
    let image : HeapImage = c.args.image.now in
    let i = c.loop-i.i in
    let band_of = regions_band image c.band_words-each.result in
    let prefix = prefix_bands image in
    let before = map band_of (range_with_len 0 i) in
    let is : c.regions_band.result ≡ band_of i =
    c.regions_band.ensures ∙ ap (λ (heap : HeapImage). regions_band heap c.band_words-each.result i) c.requires.same in
    c.in_ok-push.ensures.items
    ∙ ap (λ (bands : List Band). bands ++ c.regions_band.result ∷ []) c.loop-i.invariant
    ∙ append_assoc prefix before (c.regions_band.result ∷ [])
    ∙ ap (λ (band : Band). prefix ++ (before ++ band ∷ [])) is
    ∙ ap (λ (bands : List Band). prefix ++ bands) (sym (map-range_with_len_more band_of 0 i i (zero-add i)))
