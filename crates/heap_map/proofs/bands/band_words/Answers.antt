use Rattle.std.proofs.Common.{◌≤◌, arith}
use Rattle.heap_map.proofs.Lemmas.Bands.{ceil_few, small_product}
use Rattle.heap_map.proofs.bands.band_words.Goals as goal

pub overflow_mul-result : goal.overflow_mul-result
overflow_mul-result c =
    let words = c.region_words-2.result in
    let regions = ceil_few c.args.above c.region_words.result in
    let each = ceil_few c.div_ceil-regions.result c.from.result in
    let all = c.region_words.ensures.valid.limits.few_words in
    let above : c.args.above ≤ 68719476736 = omega (arith, c.requires.above, all) in
    let few : c.max.result ≤ 68719476738 = omega (arith, above, regions, each, c.max.ensures, c.div_ceil.ensures, c.div_ceil-regions.ensures) in
    omega (arith, small_product c.max.result words few c.region_words-2.ensures.few)
