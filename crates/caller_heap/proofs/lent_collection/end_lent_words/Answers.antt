use Rattle.std.proofs.Common.{length, sym, ◌∙◌, ap}
use Rattle.object_heap.specs.HeapImage.{HeapImage, region_count}
use Rattle.heap_image.specs.ImageText.{with_tail}
use Rattle.collector.specs.Sessions.{image_of}
use Rattle.caller_heap.proofs.Lemmas.Compacted.{compact-regions, compact-tail}
use Rattle.caller_heap.proofs.lent_collection.end_lent_words.Goals as goal

pub put_back-requires-clause-words : goal.put_back-requires-clause-words
put_back-requires-clause-words c =
    c.requires.words ∙ sym (compact-regions (image_of c.args.share)) ∙ ap region_count (sym c.in_ok-outcome.ensures.image)

pub put_back-requires-clause-tail : goal.put_back-requires-clause-tail
put_back-requires-clause-tail c =
    c.requires.tail ∙ sym (compact-tail (image_of c.args.share)) ∙ ap (λ (i : HeapImage). length (with_tail i).live) (sym c.in_ok-outcome.ensures.image)
