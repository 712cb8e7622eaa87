use Rattle.std.proofs.Common.{◌≡◌, length, map, vec_len, inl, sym, ◌∙◌, ap, arith}
use Rattle.std.proofs.lemmas.List.{length-map}
use Rattle.std.proofs.lemmas.List.FromFn.{length-map-range_with_len}
use Rattle.object_heap.specs.HeapImage.{HeapImage, block_of, region_count}
use Rattle.heap_image.specs.ImageText.{listed_text, with_tail}
use Rattle.heap_image.specs.Unchecked.{numbers_in}
use Rattle.caller_heap.specs.HeapWords.{heap_bytes}
use Rattle.caller_heap.specs.Lent.{held, heap_in, words_in}
use Rattle.caller_heap.proofs.Lemmas.Lending.{held_told}
use Rattle.caller_heap.proofs.Lemmas.LentHeap.{version_of_tail, tail_of, all_told, all_held_again, why_no_image}
use Rattle.caller_heap.proofs.lending.image_of_lent.Goals as goal

pub returns-in-Ok-clause-version : goal.returns-in-Ok-clause-version
returns-in-Ok-clause-version c =
    let parts = c.in_ok-parts.parts in
    ap (λ (i : HeapImage). i.version) c.in-Ok.ensures.image
    ∙ version_of_tail parts.version parts.region_log parts.allowance parts.regions.items parts.tail.items
    ∙ c.in_ok-parts.ensures.version

pub returns-in-Ok-clause-words : goal.returns-in-Ok-clause-words
returns-in-Ok-clause-words c =
    let lent = c.in_ok-parts.ensures in
    sym (held_told c.args.words.now lent.held) ∙ ap (map held) (sym lent.regions ∙ c.in-Ok.ensures.blocks)

pub returns-in-Ok-clause-count : goal.returns-in-Ok-clause-count
returns-in-Ok-clause-count c =
    sym (length-map c.args.words.now words_in)
    ∙ ap length (sym c.in_ok-parts.ensures.regions ∙ c.in-Ok.ensures.blocks)
    ∙ length-map-range_with_len (block_of c.in-Ok.image) 0 (region_count c.in-Ok.image)

pub returns-in-Ok-clause-tail : goal.returns-in-Ok-clause-tail
returns-in-Ok-clause-tail c =
    let parts = c.in_ok-parts.parts in
    ap length (sym c.in_ok-parts.ensures.tail ∙ sym (tail_of parts.version parts.region_log parts.allowance parts.regions.items parts.tail.items))
    ∙ ap (λ (i : HeapImage). length (with_tail i).live) (sym c.in-Ok.ensures.image)

pub returns-in_ok-keep_all-in-Err-clause-back : goal.returns-in_ok-keep_all-in-Err-clause-back
returns-in_ok-keep_all-in-Err-clause-back c =
    let words = c.args.words.now in
    let lent = c.in_ok-parts.ensures in
    let back = c.in-Err.refused.regions in
    let blocks = c.in-Err.ensures.back ∙ lent.regions in
    let many : length back.items ≡ length words = ap length blocks ∙ length-map words words_in in
    let ok : length back.items ≡ vec_len back = sym back.ok.0 in
    let same : length c.lend_parts.new.words ≡ length words = c.lend_parts.auto.words in
    let told = all_told c.keep_all.new.words c.lend_parts.new.words back.items (vec_len back) (omega arith) c.in_ok-keep_all-in-Err.ensures.kept in
    inl (all_held_again words c.keep_all.new.words back.items blocks lent.held told)

pub returns-in_ok-keep_all-in-Err-clause-fault : goal.returns-in_ok-keep_all-in-Err-clause-fault
returns-in_ok-keep_all-in-Err-clause-fault c =
    let parts = c.in_ok-parts.parts in
    let bytes = heap_bytes c.args.version c.args.settings (heap_in c.args.words.now) c.args.tail.now in
    why_no_image c.args.settings.region_log c.args.words.now bytes (listed_text parts.version (numbers_in parts)) c.in-Err.refused.fault c.in_ok-parts.ensures.bytes c.in-Err.ensures.fault
