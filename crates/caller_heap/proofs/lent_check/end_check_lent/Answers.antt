use Rattle.std.proofs.Common.{◌≡◌, ◌∙◌, length, sym, ap, subst, inl}
use Rattle.std.specs.Prelude.{Some}
use Rattle.std.proofs.lemmas.List.FromFn.{length-map-range_with_len}
use Rattle.object_heap.specs.HeapImage.{block_of, region_count}
use Rattle.heap_image.specs.ImageText.{first_fault}
use Rattle.heap_image.specs.SharedCheck.{UncheckedHeap, bytes_of}
use Rattle.caller_heap.proofs.lent_check.end_check_lent.Goals as goal

pub returns-in-Ok-finish-clause-count : goal.returns-in-Ok-finish-clause-count
returns-in-Ok-finish-clause-count c =
    let image = c.in-Ok-finish.image in
    c.requires.count
    ∙ ap (λ (h : UncheckedHeap). length h.blocks) (sym c.in-Ok.ensures.check)
    ∙ ap length c.in-Ok-finish.ensures.blocks
    ∙ length-map-range_with_len (block_of image) 0 (region_count image)

pub returns-in_ok-keep_all-in-Err-clause-fault : goal.returns-in_ok-keep_all-in-Err-clause-fault
returns-in_ok-keep_all-in-Err-clause-fault c =
    inl (subst (λ (h : UncheckedHeap). first_fault (bytes_of h) ≡ Some c.in-Err.refused.fault) c.in-Ok.ensures.check c.in-Err.ensures.fault)
