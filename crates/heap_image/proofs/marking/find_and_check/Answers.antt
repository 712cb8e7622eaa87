use Rattle.std.proofs.Common.{inr, refl, ◌∙◌}
use Rattle.std.proofs.lemmas.Result.{err_from_is_err_and}
use Rattle.object_heap.specs.HeapImage.{heap_words, with_live}
use Rattle.heap_image.proofs.Lemmas.Faultless.{first_object_fault-None}
use Rattle.heap_image.proofs.Lemmas.Marked.{only_objects}
use Rattle.heap_image.proofs.marking.find_and_check.Goals as goal

pub returns-in_err-check_live-clause-faults : goal.returns-in_err-check_live-clause-faults
returns-in_err-check_live-clause-faults g c =
    let p = err_from_is_err_and c.from_residual-in_err-check_live.result c.from_residual-in_err-check_live.ensures.1 in
    let heap = c.args.heap.now in
    let same = only_objects heap c.args.roots.now c.as_slice-2.result.now (heap_words heap) refl c.in_ok-live.ensures.roots (c.as_slice-2.ensures.value ∙ c.in_ok-live.ensures.live) in
    rw (p.1, p.2) (record { ok = tt; fault = inr (same ∙ c.in_err-check_live.ensures.fault) })

pub returns-clause-faults : goal.returns-clause-faults
returns-clause-faults g c =
    let heap = c.args.heap.now in
    let same = only_objects heap c.args.roots.now c.as_slice-2.result.now (heap_words heap) refl c.in_ok-live.ensures.roots (c.as_slice-2.ensures.value ∙ c.in_ok-live.ensures.live) in
    record { ok = same ∙ c.in_ok-check_live.ensures.ok; fault = tt }

pub returns-then-are_apart-clause-faults : goal.returns-then-are_apart-clause-faults
returns-then-are_apart-clause-faults g c =
    let heap = c.args.heap.now in
    let live = c.as_slice.result.now in
    let same = only_objects heap c.args.roots.now live (heap_words heap) refl c.in_ok-live.ensures.roots (c.as_slice.ensures.value ∙ c.in_ok-live.ensures.live) in
    record { ok = same ∙ first_object_fault-None (with_live heap live) (c.are_apart.ensures c.if-are_apart.true); fault = tt }
