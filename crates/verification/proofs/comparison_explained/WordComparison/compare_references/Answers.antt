use Rattle.std.proofs.Common.{◌≡◌, ℕ, ◌+◌, ◌<◌, sym, ◌∙◌, ap, subst, arith}
use Rattle.object_heap.specs.HeapImage.{HeapImage, word_at, references_at}
use Rattle.summary.specs.Compaction.{redirected, compact}
use Rattle.verification.proofs.Lemmas.Comparing.{tally_to}
use Rattle.verification.proofs.Lemmas.Placing.{reference_word}
use Rattle.verification.proofs.comparison_explained.WordComparison.compare_references.Goals as goal

pub compare-requires-clause-few : goal.compare-requires-clause-few
compare-requires-clause-few c = c.loop-f.invariant.few

pub loop-f-preserved : goal.loop-f-preserved
loop-f-preserved c =
    let before : HeapImage = c.args.self.now.before.now in
    let after : HeapImage = c.args.self.now.after.now in
    let a : ℕ = c.args.a in
    let place : ℕ = c.args.place in
    let f : ℕ = c.loop-f.f in
    let l : f < references_at before a = subst (λ n. f < n) c.references_at-f-end.ensures.value c.loop-f-test.true in
    let wanted : word_at (compact before) (place + 1 + f) ≡ c.redirected-expected.result =
    reference_word before a place c.requires.placed f l ∙ ap (redirected before) (sym c.word-reference.ensures) ∙ ap (λ (i : HeapImage). redirected i c.word-reference.result) (sym (c.plan.ensures ∙ c.args.self.now.survey_of)) ∙ sym c.redirected-expected.ensures in
    tally_to (place + 1 + f + 1) (place + 1 + (f + 1)) (omega arith)
    (c.in_ok-compare.ensures.tally (word_at (compact before)) (word_at after) wanted (sym c.word.ensures) c.loop-f.invariant)
