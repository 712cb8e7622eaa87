use Rattle.object_heap.specs.HeapImage.{HeapImage}
use Rattle.summary.specs.NewAddresses.{new_top}
use Rattle.verification.specs.Verdict.{HaveSameShape}
use Rattle.verification.proofs.Lemmas.Telling.{shape, least_below, after_words_below}
use Rattle.verification.proofs.comparison.Comparison.verdict_below_top.Goals as goal

pub returns-in-Some : goal.returns-in-Some
returns-in-Some g c =
    let before : HeapImage = c.args.before.now in
    let after : HeapImage = c.args.after.now in
    let long = c.blocks_of_regions.ensures.compacted_length before in
    let same : HaveSameShape before after = c.have_same_shape.ensures.0 c.if-not-have_same_shape.false in
    (shape before after long same, least_below before after long (new_top before) c.in-Some.a c.in-Some.ensures)

pub returns-in-None : goal.returns-in-None
returns-in-None g c =
    let before : HeapImage = c.args.before.now in
    let after : HeapImage = c.args.after.now in
    let long = c.blocks_of_regions.ensures.compacted_length before in
    let same : HaveSameShape before after = c.have_same_shape.ensures.0 c.if-not-have_same_shape.false in
    after_words_below before after long (new_top before) same c.in-None.ensures c.verdict_on_lists.result c.verdict_on_lists.ensures
