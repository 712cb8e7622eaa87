use Rattle.std.proofs.Common.{ℕ, ◌<◌, ◌∙◌, arith}
use Rattle.std.proofs.lemmas.Bool.{lt-leb}
use Rattle.object_heap.specs.HeapImage.{heap_words}
use Rattle.heap_marking.proofs.Lemmas.References.{leads_nowhere}
use Rattle.heap_marking.proofs.soundness.is_null_or_live.Goals as goal

pub returns-else-reference-len : goal.returns-else-reference-len
returns-else-reference-len c = λ live below marks.
    let words : ℕ = heap_words c.args.heap.now in
    let is = c.len.ensures.value in
    let outside : words < c.args.reference = (let past = c.if-reference-len.false in omega arith) in
    lt-leb c.args.reference c.len.result c.if-reference-len.false
    ∙ leads_nowhere words live c.args.bits.now below marks c.args.reference (λ null. omega arith) outside
