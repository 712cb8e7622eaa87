use Rattle.std.proofs.Common.{ℕ, List, ap, ◌∙◌, codes}
use Rattle.object_heap.specs.HeapImage.{HeapImage, heap_words, version_of}
use Rattle.object_heap.specs.Version.{number_of}
use Rattle.heap_text.specs.Text.{number_line}
use Rattle.heap_text.proofs.Lemmas.TextSteps.{append_four, same_line}
use Rattle.heap_text.proofs.writing.write_front.Goals as goal

pub returns : goal.returns
returns c =
    let image : HeapImage = c.args.image.now in
    let t0 : List ℕ = c.args.text.now.items in
    let t1 : List ℕ = c.write_line.new.text.items in
    let t2 : List ℕ = c.write_line-2.new.text.items in
    let t3 : List ℕ = c.write_line-3.new.text.items in
    let t4 : List ℕ = c.write_line-4.new.text.items in
    append_four t0 t1 t2 t3 t4 (number_line (codes "heap version") (version_of image)) (number_line (codes "region-log") image.region_log)
    (number_line (codes "words") (heap_words image)) (number_line (codes "allowance") image.allowance)
    (same_line (codes "heap version") t0 t1 c.from.result (version_of image) c.in_ok-write_line.ensures (c.from.ensures ∙ (c.number.ensures ∙ ap number_of c.version.ensures.value)))
    (same_line (codes "region-log") t1 t2 c.from-2.result image.region_log c.in_ok-write_line-2.ensures (c.from-2.ensures ∙ c.region_log.ensures.value))
    (same_line (codes "words") t2 t3 c.len.result (heap_words image) c.in_ok-write_line-3.ensures c.len.ensures.value)
    (same_line (codes "allowance") t3 t4 c.allowance.result image.allowance c.in_ok-write_line-4.ensures c.allowance.ensures)
