use Rattle.std.proofs.Common.{sym, ◌∙◌, ap}
use Rattle.object_heap.specs.Header.{size_of}
use Rattle.object_heap.specs.Layout.{Layout, size_in}
use Rattle.object_heap.specs.HeapImage.{word_at}
use Rattle.heap_image.proofs.image.Image.size_at.Goals as goal

pub returns-clause-value : goal.returns-clause-value
returns-clause-value c = c.from.ensures ∙ c.size.ensures ∙ ap size_of c.word.ensures ∙ sym (ap (λ (y : Layout). size_in y (word_at c.args.self.now c.args.a)) c.image_is_valid.ensures.own)
