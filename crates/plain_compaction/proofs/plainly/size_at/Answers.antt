use Rattle.std.proofs.Common.{sym, ◌∙◌, ap}
use Rattle.object_heap.specs.Header.{size_of}
use Rattle.object_heap.specs.HeapImage.{word_at}
use Rattle.plain_compaction.proofs.plainly.size_at.Goals as goal

pub returns-clause-value : goal.returns-clause-value
returns-clause-value c = c.from.ensures ∙ c.size.ensures ∙ ap size_of c.word_or_zero.ensures ∙ sym (c.image_is_own.ensures.sizes (word_at c.args.image.now c.args.a))
