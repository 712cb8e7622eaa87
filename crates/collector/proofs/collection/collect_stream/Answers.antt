use Rattle.std.proofs.Common.{Err, ap, inr}
use Rattle.std.proofs.lemmas.Result.{err_from_is_err_and}
use Rattle.image_streams.specs.declared.fault.Fault.TheVariants.{Workers, Gate, Schedule}
use Rattle.collector.proofs.Lemmas.Reasons.{lost_by_gate}
use Rattle.collector.proofs.Lemmas.Streams.{no_such_reading, text_begun, appended}
use Rattle.collector.proofs.collection.collect_stream.Goals as goal

pub returns-in_err-image-clause-workers : goal.returns-in_err-image-clause-workers
returns-in_err-image-clause-workers g c is =
    let p = err_from_is_err_and c.from_residual.result c.from_residual.ensures.1 in
    no_such_reading c.in_err-image.field-0.0 Workers (cc (p.1, p.2, is)) (λ none. none) c.in_err-image.ensures.kind

pub returns-in_err-image-clause-gate : goal.returns-in_err-image-clause-gate
returns-in_err-image-clause-gate g c is =
    let p = err_from_is_err_and c.from_residual.result c.from_residual.ensures.1 in
    no_such_reading c.in_err-image.field-0.0 Gate (cc (p.1, p.2, is)) (λ none. none) c.in_err-image.ensures.kind

pub returns-in_err-image-clause-schedule : goal.returns-in_err-image-clause-schedule
returns-in_err-image-clause-schedule g c =
    let p = err_from_is_err_and c.from_residual.result c.from_residual.ensures.1 in
    rw (p.1, p.2) (λ line same. no_such_reading c.in_err-image.field-0.0 (Schedule line) same (λ none. none) c.in_err-image.ensures.kind)

pub returns-in_err-write_image_buffered-in-Ok-clause-written : goal.returns-in_err-write_image_buffered-in-Ok-clause-written
returns-in_err-write_image_buffered-in-Ok-clause-written g c =
    let p = err_from_is_err_and c.from_residual-in_err-write_image_buffered-in-Ok.result c.from_residual-in_err-write_image_buffered-in-Ok.ensures.1 in
    rw (p.1) (inr (text_begun _ _ _ _ _ _ c.in_ok-image.ensures.read c.in-Ok.ensures.image c.in_err-write_image_buffered-in-Ok.ensures.beginning))

pub returns-in_ok-write_image_buffered-in-Ok-clause-text : goal.returns-in_ok-write_image_buffered-in-Ok-clause-text
returns-in_ok-write_image_buffered-in-Ok-clause-text g c = (
  c.in_ok-image.image,
  c.in_ok-image.ensures.read,
  appended _ _ _ _ _ _ c.in_ok-image.ensures.read c.in-Ok.ensures.image c.in_ok-write_image_buffered-in-Ok.ensures.text,
  c.in-Ok.ensures.figures,
)

pub returns-in-Err-clause-gate : goal.returns-in-Err-clause-gate
returns-in-Err-clause-gate g c is = (
  c.in_ok-image.image,
  c.in_ok-image.ensures.read,
  c.in-Err.ensures.gate (ap Err (lost_by_gate c.in-Err.refusal c.in_ok-image.image c.in-Err.ensures.kept (cc (is, c.fault.ensures)))),
)
