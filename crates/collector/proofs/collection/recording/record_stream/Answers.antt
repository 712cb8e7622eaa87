use Rattle.std.proofs.Common.{ℕ, List, subst, inr, ◌∙◌}
use Rattle.std.specs.Io.KnownBytes.{Appends}
use Rattle.std.proofs.lemmas.Result.{err_from_is_err_and}
use Rattle.collector.proofs.Lemmas.Streams.{text_begun, text_written, all_begun, appended}
use Rattle.collector.proofs.collection.recording.record_stream.Goals as goal

pub returns-in_err-write_image_buffered-in-Ok-clause-written : goal.returns-in_err-write_image_buffered-in-Ok-clause-written
returns-in_err-write_image_buffered-in-Ok-clause-written g c =
    let p = err_from_is_err_and c.from_residual-in_err-write_image_buffered-in-Ok.result c.from_residual-in_err-write_image_buffered-in-Ok.ensures.1 in
    rw (p.1) (inr (text_begun _ _ _ _ _ _ c.in_ok-image.ensures.read c.in-Ok.ensures.image c.in_err-write_image_buffered-in-Ok.ensures.beginning))

pub returns-in_err-give_all-in-Ok-clause-written : goal.returns-in_err-give_all-in-Ok-clause-written
returns-in_err-give_all-in-Ok-clause-written g c =
    let p = err_from_is_err_and c.from_residual-in_err-give_all-in-Ok.result c.from_residual-in_err-give_all-in-Ok.ensures.1 in
    rw (p.1) (inr (text_begun _ _ _ _ _ _ c.in_ok-image.ensures.read c.in-Ok.ensures.image (all_begun _ _ _ c.in_ok-write_image_buffered-in-Ok.ensures.text)))

pub returns-in_err-give_all-in-Ok-clause-lines_last : goal.returns-in_err-give_all-in-Ok-clause-lines_last
returns-in_err-give_all-in-Ok-clause-lines_last g c =
    let p = err_from_is_err_and c.from_residual-in_err-give_all-in-Ok.result c.from_residual-in_err-give_all-in-Ok.ensures.1 in
    rw (p.1) (inr (text_written _ _ _ _ _ _ c.in_ok-image.ensures.read c.in-Ok.ensures.image c.in_ok-write_image_buffered-in-Ok.ensures.text))

pub returns-in_ok-give_all-in-Ok-clause-texts : goal.returns-in_ok-give_all-in-Ok-clause-texts
returns-in_ok-give_all-in-Ok-clause-texts g c =
    let lines = g.L.Outlet.took c.args.lines.now in
    let lines' = g.L.Outlet.took c.give_all.new.writer in
    record {
      image = c.in_ok-image.image;
      read = c.in_ok-image.ensures.read;
      collected = appended _ _ _ _ _ _ c.in_ok-image.ensures.read c.in-Ok.ensures.image c.in_ok-write_image_buffered-in-Ok.ensures.text;
      schedule = c.in-Ok.schedule;
      recorded = c.in-Ok.ensures.schedule;
      listed = subst (λ (bytes : List ℕ). Appends lines lines' bytes) (c.as_slice.ensures.value ∙ c.in_ok-text-in-Ok.ensures) c.in_ok-give_all-in-Ok.ensures.bytes;
      counted = c.in-Ok.ensures.figures;
    }
