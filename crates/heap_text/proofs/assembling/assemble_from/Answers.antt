use Rattle.std.proofs.Common.{◌≡◌, ◌∙◌, inl, inr, ap, Ok, Err}
use Rattle.std.proofs.lemmas.Result.{err_from_is_err_and}
use Rattle.heap_text.specs.Text.{text_of}
use Rattle.heap_text.specs.declared.error.AssembleError.TheVariants.{Text}
use Rattle.heap_text.specs.declared.error.TextError.{TextError}
use Rattle.heap_text.proofs.Lemmas.DeviceSteps.{from_accepted, given_whole}
use Rattle.heap_text.proofs.Lemmas.ImageSteps.{memory_only}
use Rattle.heap_text.proofs.assembling.assemble_from.Goals as goal

pub returns-in_err-heap-clause-only : goal.returns-in_err-heap-clause-only
returns-in_err-heap-clause-only g c image valid known =
    let p = err_from_is_err_and c.from_residual.result c.from_residual.ensures.1 in
    rw (p.1, p.2) (from_accepted image c.in_err-heap.field-0.0 _ (c.in_err-heap.ensures.accepts image valid known))

pub returns-in_err-build_image-clause-only : goal.returns-in_err-build_image-clause-only
returns-in_err-build_image-clause-only g c image valid known =
    let p = err_from_is_err_and c.from_residual-in_err-build_image.result c.from_residual-in_err-build_image.ensures.1 in
    let is : c.as_slice.result.now ≡ text_of image = c.as_slice.ensures.value ∙ given_whole (g.R.Intake.left c.args.device.now) (g.R.Intake.left c.parse_from.new.device) (text_of image)
    c.parse_from.new.text.items known c.in_ok-heap.ensures.text c.in_ok-heap.ensures.end in
    rw (p.1, p.2) (inr (inl (ap (λ (error : TextError). Err (Text error)) (memory_only c.in_err-build_image.field-0.0 _ (c.in_err-build_image.ensures.accepts image valid is
    (c.in_ok-heap.ensures.accepts image valid known))))))

pub returns-clause-only : goal.returns-clause-only
returns-clause-only g c image valid known =
    let is : c.as_slice.result.now ≡ text_of image = c.as_slice.ensures.value ∙ given_whole (g.R.Intake.left c.args.device.now) (g.R.Intake.left c.parse_from.new.device) (text_of image)
    c.parse_from.new.text.items known c.in_ok-heap.ensures.text c.in_ok-heap.ensures.end in
    inl (ap Ok (c.in_ok-build_image.ensures.accepts image valid is (c.in_ok-heap.ensures.accepts image valid known)))
