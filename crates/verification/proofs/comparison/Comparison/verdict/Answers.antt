use Rattle.object_heap.specs.HeapImage.{HeapImage}
use Rattle.verification.specs.Verdict.{HaveSameShape}
use Rattle.verification.proofs.Lemmas.Telling.{shape, word_other, after_words}
use Rattle.verification.proofs.comparison.Comparison.verdict.Goals as goal

pub returns-in-Some : goal.returns-in-Some
returns-in-Some g c =
    let before : HeapImage = c.args.before.now in
    let after : HeapImage = c.args.after.now in
    let long = c.blocks_of_regions.ensures.compacted_length before in
    let same : HaveSameShape before after = c.have_same_shape.ensures.0 c.if-not-have_same_shape.false in
    (shape before after long same, word_other before after long c.in-Some.a c.in-Some.ensures)

pub returns-in-None : goal.returns-in-None
returns-in-None g c =
    let before : HeapImage = c.args.before.now in
    let after : HeapImage = c.args.after.now in
    let long = c.blocks_of_regions.ensures.compacted_length before in
    let same : HaveSameShape before after = c.have_same_shape.ensures.0 c.if-not-have_same_shape.false in
    after_words before after long same c.in-None.ensures c.verdict_on_lists.result c.verdict_on_lists.ensures
