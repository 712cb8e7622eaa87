use Rattle.std.proofs.Common.{◌≡◌, length, map, vec_len, inl, sym, ◌∙◌, ap, arith}
use Rattle.std.proofs.lemmas.List.{length-map}
use Rattle.heap_image.specs.SharedCheck.{UncheckedHeap, bytes_of, heap_in as heap_of_parts}
use Rattle.caller_heap.specs.HeapWords.{heap_bytes}
use Rattle.caller_heap.specs.Lent.{held, heap_in, words_in}
use Rattle.caller_heap.proofs.Lemmas.Lending.{held_told}
use Rattle.caller_heap.proofs.Lemmas.LentHeap.{all_told, all_held_again, why_no_image}
use Rattle.caller_heap.proofs.lent_check.check_of_lent.Goals as goal

pub returns-in-Ok-clause-words : goal.returns-in-Ok-clause-words
returns-in-Ok-clause-words c =
    let lent = c.in_ok-parts.ensures in
    sym (held_told c.args.words.now lent.held) ∙ ap (map held) (sym lent.regions) ∙ ap (λ (h : UncheckedHeap). map held h.blocks) (sym c.in-Ok.ensures.check)

pub returns-in_ok-keep_all-in-Err-clause-back : goal.returns-in_ok-keep_all-in-Err-clause-back
returns-in_ok-keep_all-in-Err-clause-back c =
    let words = c.args.words.now in
    let lent = c.in_ok-parts.ensures in
    let back = c.in-Err.refused.regions in
    let blocks = c.in-Err.ensures.back ∙ lent.regions in
    let many : length back.items ≡ length words = ap length blocks ∙ length-map words words_in in
    let ok : length back.items ≡ vec_len back = sym back.ok.0 in
    let same : length c.lend_parts.new.words ≡ length words = c.lend_parts.auto.words in
    let told = all_told c.keep_all.new.words c.lend_parts.new.words back.items (vec_len back) (omega arith) c.in_ok-keep_all-in-Err.ensures.kept in
    inl (all_held_again words c.keep_all.new.words back.items blocks lent.held told)

pub returns-in_ok-keep_all-in-Err-clause-fault : goal.returns-in_ok-keep_all-in-Err-clause-fault
returns-in_ok-keep_all-in-Err-clause-fault c =
    let parts = c.in_ok-parts.parts in
    let bytes = heap_bytes c.args.version c.args.settings (heap_in c.args.words.now) c.args.tail.now in
    why_no_image c.args.settings.region_log c.args.words.now bytes (bytes_of (heap_of_parts parts)) c.in-Err.refused.fault c.in_ok-parts.ensures.bytes c.in-Err.ensures.fault
