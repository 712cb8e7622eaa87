use Rattle.std.proofs.Common.{◌≡◌, length, map, sym, ◌∙◌, ap, subst}
use Rattle.std.proofs.lemmas.Result.{IfOk-weaker}
use Rattle.object_heap.specs.HeapImage.{HeapImage, region_count}
use Rattle.heap_image.specs.ImageText.{with_tail}
use Rattle.summary.specs.Compaction.{compact}
use Rattle.caller_heap.specs.Collected.{IsTailOf}
use Rattle.caller_heap.specs.Lent.{blocks_of, held}
use Rattle.caller_heap.proofs.Lemmas.Compacted.{compact-regions, compact-tail, compact-tail_is}
use Rattle.caller_heap.proofs.lent_collection.collect_lent_words.Goals as goal

pub put_back-requires-clause-words : goal.put_back-requires-clause-words
put_back-requires-clause-words c =
    c.image_of_lent.auto.words ∙ c.in_ok-image.ensures.count ∙ sym (compact-regions c.in_ok-image.image) ∙ ap region_count (sym c.in-Ok.ensures.image)

pub put_back-requires-clause-tail : goal.put_back-requires-clause-tail
put_back-requires-clause-tail c =
    c.in_ok-image.ensures.tail ∙ sym (compact-tail c.in_ok-image.image) ∙ ap (λ (i : HeapImage). length (with_tail i).live) (sym c.in-Ok.ensures.image)

pub returns-in-Ok-clause-collected : goal.returns-in-Ok-clause-collected
returns-in-Ok-clause-collected c =
    let image = c.in_ok-image.image in
    let lent = c.in_ok-image.ensures in
    let after : c.in-Ok.outcome.image ≡ compact image = c.in-Ok.ensures.image in
    let tail = compact-tail_is c.args.version image lent.valid lent.version in
    IfOk-weaker c.put_back.result _ _
    (λ figures put. (
      image,
      lent.valid,
      lent.text,
      put.0 ∙ ap (λ (i : HeapImage). map held (blocks_of i)) after,
      subst (IsTailOf c.args.version (compact image)) (sym (put.1 ∙ ap (λ (i : HeapImage). (with_tail i).live) after)) tail,
      put.2 ∙ c.in-Ok.ensures.figures,
    ))
    c.put_back.ensures.put
