use Rattle.std.proofs.Common.{◌≡◌, ◌++◌, ◌∷◌, [], sym, ◌∙◌, arith}
use Rattle.std.proofs.lemmas.List.FromFn.{map-range_with_len_more}
use Rattle.object_heap.specs.HeapImage.{block_of}
use Rattle.execution_tests.proofs.kept.copies.Goals as goal

pub loop-region-preserved : goal.loop-region-preserved
loop-region-preserved c =
    let block = block_of c.args.image.now in
    let r = c.loop-region.region in
    let same : c.in_ok-of_words.field-0 ≡ block r = c.in_ok-of_words.ensures ∙ (c.words.ensures.value ∙ c.region.ensures) in
    c.in_ok-push.ensures.items
    ∙ (λ i. c.loop-region.invariant i ++ same i ∷ [])
    ∙ sym (map-range_with_len_more block 0 r r (omega arith))
