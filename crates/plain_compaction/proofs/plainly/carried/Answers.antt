use Rattle.std.proofs.Common.{◌∙◌, ap, sym}
use Rattle.std.proofs.lemmas.Bool.{cond-true, cond-false}
use Rattle.std.specs.List.{list_any}
use Rattle.object_heap.specs.HeapImage.{word_at}
use Rattle.summary.specs.Compaction.{redirected, redirected_word, is_reference_of}
use Rattle.plain_compaction.proofs.Lemmas.Words.{carried-any}
use Rattle.plain_compaction.proofs.plainly.carried.Goals as goal

pub returns-then-is_reference : goal.returns-then-is_reference
returns-then-is_reference c =
    let image = c.args.image.now in
    let q = c.args.q in
    c.redirected.ensures
    ∙ ap (redirected image) c.word_or_zero-word.ensures
    ∙ sym (c.image_is_own.ensures.redirects (word_at image q))
    ∙ sym (cond-true (list_any (λ a. is_reference_of image a q) image.live) (redirected_word image (word_at image q)) (word_at image q) (sym c.is_reference.ensures ∙ c.if-is_reference.true))
    ∙ sym (carried-any image q)

pub returns-else-is_reference : goal.returns-else-is_reference
returns-else-is_reference c =
    let image = c.args.image.now in
    let q = c.args.q in
    c.word_or_zero-word.ensures
    ∙ sym (cond-false (list_any (λ a. is_reference_of image a q) image.live) (redirected_word image (word_at image q)) (word_at image q) (sym c.is_reference.ensures ∙ c.if-is_reference.false))
    ∙ sym (carried-any image q)
