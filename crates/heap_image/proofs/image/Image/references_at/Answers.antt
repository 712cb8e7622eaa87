use Rattle.std.proofs.Common.{sym, ◌∙◌, ap}
use Rattle.object_heap.specs.Header.{references_of}
use Rattle.object_heap.specs.Layout.{Layout, references_in}
use Rattle.object_heap.specs.HeapImage.{word_at}
use Rattle.heap_image.proofs.image.Image.references_at.Goals as goal

pub returns-clause-value : goal.returns-clause-value
returns-clause-value c = c.from.ensures ∙ c.references.ensures ∙ ap references_of c.word.ensures ∙ sym (ap (λ (y : Layout). references_in y (word_at c.args.self.now c.args.a)) c.image_is_valid.ensures.own)
