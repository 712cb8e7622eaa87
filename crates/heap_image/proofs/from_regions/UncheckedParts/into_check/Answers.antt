use Rattle.std.proofs.Common.{[], ap, subst, refl, ◌∙◌}
use Rattle.object_heap.specs.HeapImage.{image_of}
use Rattle.heap_image.specs.Checks.{IsMemoryOr, first_in_tail}
use Rattle.heap_image.proofs.Lemmas.Refusing.{check_of_parts}
use Rattle.heap_image.proofs.from_regions.UncheckedParts.into_check.Goals as goal

pub returns-in-Err-clause-fault : goal.returns-in-Err-clause-fault
returns-in-Err-clause-fault g c =
    let parts = c.args.self in
    let same = c.new-heap.ensures ∙ ap (λ bs. image_of parts.region_log 0 bs []) c.as_slice.ensures.value in
    let fault = c.in-Err.fault in
    check_of_parts parts.version parts.region_log parts.allowance parts.regions.items parts.regions.items parts.tail.items refl fault (subst (λ heap. IsMemoryOr (first_in_tail parts.version heap parts.tail.items) fault) same c.in-Err.ensures.fault)
