use Rattle.std.proofs.Common.{◌∙◌, sym, ap, arith}
use Rattle.std.proofs.lemmas.List.{ext_get_or}
use Rattle.object_heap.specs.HeapImage.{HeapImage, region_words}
use Rattle.execution_tests.proofs.overwritten.write_words.Goals as goal

pub returns-clause-words : goal.returns-clause-words
returns-clause-words c =
    let i = c.loop-i.invariant in
    let same = i.0 ∙ (ap (λ (image : HeapImage). region_words image) i.1 ∙ sym c.requires.words) in
    ext_get_or 0 c.loop-i.target.words c.args.words.now same (λ k inside. i.3 k (omega (arith, inside, same, c.loop-i-test.false, c.len-i-end.ensures.value, c.loop-i.auto.i-end)))
