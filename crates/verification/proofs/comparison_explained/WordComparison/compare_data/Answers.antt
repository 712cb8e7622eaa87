use Rattle.std.proofs.Common.{ℕ, ◌+◌, sym, ◌∙◌, arith}
use Rattle.object_heap.specs.HeapImage.{HeapImage, word_at}
use Rattle.summary.specs.Compaction.{compact}
use Rattle.verification.proofs.Lemmas.Comparing.{tally_to, data_word}
use Rattle.verification.proofs.comparison_explained.WordComparison.compare_data.Goals as goal

pub compare-requires-clause-few : goal.compare-requires-clause-few
compare-requires-clause-few c = c.loop-j.invariant.few

pub loop-j-preserved : goal.loop-j-preserved
loop-j-preserved c =
    let before : HeapImage = c.args.self.now.before.now in
    let after : HeapImage = c.args.self.now.after.now in
    let a : ℕ = c.args.a in
    let place : ℕ = c.args.place in
    let j : ℕ = c.loop-j.j in
    let wanted = data_word before a place c.references_at-j.result c.size_at-j-end.result j c.requires.placed c.references_at-j.ensures.value c.size_at-j-end.ensures.value c.loop-j.auto.j c.loop-j-test.true ∙ sym c.word.ensures in
    tally_to (place + j + 1) (place + (j + 1)) (omega arith)
    (c.in_ok-compare.ensures.tally (word_at (compact before)) (word_at after) wanted (sym c.word-in-loop-j.ensures) c.loop-j.invariant)
