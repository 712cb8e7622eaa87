use Rattle.std.proofs.Common.{sym, ◌∙◌, ap}
use Rattle.object_heap.specs.Header.{references_of}
use Rattle.object_heap.specs.HeapImage.{word_at}
use Rattle.plain_compaction.proofs.plainly.references_at.Goals as goal

pub returns : goal.returns
returns c = c.from.ensures ∙ c.references.ensures ∙ ap references_of c.word_or_zero.ensures ∙ sym (c.image_is_own.ensures.references (word_at c.args.image.now c.args.a))
