use Rattle.std.proofs.Common.{inr, ap, Err}
use Rattle.std.proofs.lemmas.Result.{err_from_is_err_and}
use Rattle.heap_text.proofs.Lemmas.ImageSteps.{memory_only, text_accepted}
use Rattle.heap_text.proofs.assembling.assemble.Goals as goal

pub returns-in_err-heap-clause-only : goal.returns-in_err-heap-clause-only
returns-in_err-heap-clause-only c image valid is =
    let p = err_from_is_err_and c.from_residual.result c.from_residual.ensures.1 in
    rw (p.1, p.2) (inr (ap Err (memory_only c.in_err-heap.field-0.0 _ (c.in_err-heap.ensures.accepts image valid is))))

pub returns-clause-only : goal.returns-clause-only
returns-clause-only c image valid is =
    text_accepted image c.build_image.result (c.build_image.ensures.accepts image valid is (c.in_ok-heap.ensures.accepts image valid is))
