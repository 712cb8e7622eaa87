use Rattle.std.proofs.Common.{◌≡◌, ◌<◌, ◌+◌, ◌^◌, ◌++◌, [], length, get_or, take, ap, sym, subst, ◌∙◌, arith, length-append, All}
use Rattle.std.proofs.lemmas.List.{get_or_default}
use Rattle.std.proofs.lemmas.List.Elements.{All-append}
use Rattle.std.specs.List.{concat}
use Rattle.heap_image.proofs.Lemmas.Blocks.{concat_more}
use Rattle.heap_image.proofs.from_regions.word_count.Goals as goal

pub loop-region-preserved : goal.loop-region-preserved
loop-region-preserved c =
    let regions = c.args.regions.now in
    let i = c.loop-region.region-index in
    let region = c.region-item.result in
    let row = c.words.result.now in
    let so_far = c.loop-region.invariant in
    let inside : i < length regions = c.loop-region-test.true in
    let is : get_or regions i [] ≡ row = sym (c.region-item.is ∙ get_or_default regions i region [] inside) ∙ sym c.words.ensures.value in
    let more : concat (take (i + 1) regions) ≡ concat (take i regions) ++ row = concat_more regions i row inside is in
    let longer = length-append (concat (take i regions)) row in
    let grown : length (concat (take (i + 1) regions)) ≡ length (concat (take i regions)) + length row = ap length more ∙ longer in
    let counted = so_far.count in
    let added = c.length_of.ensures.count in
    record {
      count = omega arith;
      fit = subst (λ ws. All (λ w. w < 2 ^ 64) ws) (sym more) (All-append (λ w. w < 2 ^ 64) (concat (take i regions)) row so_far.fit c.length_of.ensures.fit);
    }
