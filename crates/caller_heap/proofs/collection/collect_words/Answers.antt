use Rattle.std.proofs.Common.{length, sym, ap, subst, ◌∙◌}
use Rattle.object_heap.specs.HeapImage.{HeapImage, heap_words}
use Rattle.heap_image.specs.ImageText.{with_tail}
use Rattle.summary.specs.Compaction.{compact}
use Rattle.caller_heap.specs.Collected.{IsTailOf}
use Rattle.caller_heap.proofs.Lemmas.Compacted.{compact-words, compact-tail, compact-tail_is}
use Rattle.caller_heap.proofs.collection.collect_words.Goals as goal

pub put_words-requires : goal.put_words-requires
put_words-requires c =
    sym c.in_ok-image.ensures.words ∙ sym (compact-words c.in_ok-image.image) ∙ ap heap_words (sym c.in_ok-after.ensures.image)

pub put_tail-requires : goal.put_tail-requires
put_tail-requires c =
    sym c.in_ok-image.ensures.tail ∙ sym (compact-tail c.in_ok-image.image) ∙ ap (λ (i : HeapImage). length (with_tail i).live) (sym c.in_ok-after.ensures.image)

pub returns-clause-collected : goal.returns-clause-collected
returns-clause-collected c =
    let image = c.in_ok-image.image in
    let read = c.in_ok-image.ensures in
    let after = c.in_ok-after.ensures in
    let tail = c.put_tail.ensures ∙ ap (λ (i : HeapImage). (with_tail i).live) after.image in (
      image,
      read.valid,
      read.text,
      c.put_words.ensures ∙ ap (λ (i : HeapImage). i.words) after.image,
      subst (IsTailOf c.args.version (compact image)) (sym tail) (compact-tail_is c.args.version image read.valid read.version),
      after.figures,
    )
