use Rattle.std.proofs.Common.{◌==◌, ◌∙◌, sym}
use Rattle.std.proofs.lemmas.Bool.{eq-eqb}
use Rattle.object_heap.specs.HeapImage.{word_at}
use Rattle.heap_text.proofs.Lemmas.TextSteps.{all_but_first}
use Rattle.heap_text.proofs.writing.are_equal.Goals as goal

pub loop-place-preserved : goal.loop-place-preserved
loop-place-preserved c =
    sym (all_but_first (λ a. word_at c.args.image.now a == c.word-first.result) c.loop-place.place c.args.to c.loop-place-test.true
    (eq-eqb (word_at c.args.image.now c.loop-place.place) c.word-first.result (sym c.word.ensures ∙ c.if-word-first.false))) ∙ c.loop-place.invariant
