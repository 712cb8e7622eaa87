use Rattle.std.proofs.Common.{◌≡◌, ℕ, ◌<◌, sym, arith}
use Rattle.object_heap.specs.HeapImage.{HeapImage, heap_words, word_at}
use Rattle.summary.specs.Compaction.{compact}
use Rattle.verification.proofs.Lemmas.Comparing.{tally_to, zero_above}
use Rattle.verification.proofs.comparison_explained.WordComparison.compare_free.Goals as goal

pub compare-requires-clause-few : goal.compare-requires-clause-few
compare-requires-clause-few c = c.loop-p.invariant.few

pub loop-p-preserved : goal.loop-p-preserved
loop-p-preserved c =
    let before : HeapImage = c.args.self.now.before.now in
    let after : HeapImage = c.args.self.now.after.now in
    let p : ℕ = c.loop-p.p in
    let low = c.loop-p.auto.p in
    let inside : p < heap_words before = (let t = c.loop-p-test.true in let i = c.requires.inside in omega arith) in
    let high = c.requires.above in
    c.in_ok-compare.ensures.tally (word_at (compact before)) (word_at after)
    (zero_above before p (omega (arith, low, high)) inside (c.compaction_by_objects.ensures.zeros before c.image_is_valid.ensures.live_list)) (sym c.word.ensures) c.loop-p.invariant

pub returns : goal.returns
returns c =
    let end : c.loop-p.p ≡ c.args.limit = (let high = c.loop-p.auto.p-end c.requires.ordered in let low = c.loop-p-test.false in omega arith) in
    tally_to c.loop-p.p c.args.limit end c.loop-p.invariant
