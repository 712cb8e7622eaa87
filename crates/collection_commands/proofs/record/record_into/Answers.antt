use Rattle.std.proofs.Common.{ℕ, List, subst, inr, ◌∙◌}
use Rattle.std.specs.Io.KnownBytes.{Appends}
use Rattle.std.proofs.lemmas.Result.{err_from_is_err_and}
use Rattle.collection_commands.proofs.Lemmas.Written.{text_begun, text_written, all_begun, appended}
use Rattle.collection_commands.proofs.record.record_into.Goals as goal

pub returns-in_err-write_image_buffered-in-Ok-clause-written : goal.returns-in_err-write_image_buffered-in-Ok-clause-written
returns-in_err-write_image_buffered-in-Ok-clause-written g c =
    let p = err_from_is_err_and c.from_residual-in_err-write_image_buffered-in-Ok.result c.from_residual-in_err-write_image_buffered-in-Ok.ensures.1 in
    rw (p.1) (inr (text_begun _ _ _ _ _ _ c.in_ok-image.ensures.read c.in-Ok.ensures.image c.in_err-write_image_buffered-in-Ok.ensures.beginning))

pub returns-in_err-give_all-in-Ok-clause-written : goal.returns-in_err-give_all-in-Ok-clause-written
returns-in_err-give_all-in-Ok-clause-written g c =
    let p = err_from_is_err_and c.from_residual-in_err-give_all-in-Ok.result c.from_residual-in_err-give_all-in-Ok.ensures.1 in
    rw (p.1) (inr (text_begun _ _ _ _ _ _ c.in_ok-image.ensures.read c.in-Ok.ensures.image (all_begun _ _ _ c.in_ok-write_image_buffered-in-Ok.ensures.text)))

pub returns-in_err-give_all-in-Ok-clause-lines_last : goal.returns-in_err-give_all-in-Ok-clause-lines_last
returns-in_err-give_all-in-Ok-clause-lines_last g c =
    let p = err_from_is_err_and c.from_residual-in_err-give_all-in-Ok.result c.from_residual-in_err-give_all-in-Ok.ensures.1 in
    rw (p.1) (inr (text_written _ _ _ _ _ _ c.in_ok-image.ensures.read c.in-Ok.ensures.image c.in_ok-write_image_buffered-in-Ok.ensures.text))

pub returns-in_ok-give_all-in-Ok-clause-record : goal.returns-in_ok-give_all-in-Ok-clause-record
returns-in_ok-give_all-in-Ok-clause-record g c =
    let lines = g.L.Outlet.took c.args.lines.now in
    let lines' = g.L.Outlet.took c.give_all.new.writer in (
      c.in-Ok.outcome.figures,
      record {
        image = c.in_ok-image.image;
        read = c.in_ok-image.ensures.read;
        collected = appended _ _ _ _ _ _ c.in_ok-image.ensures.read c.in-Ok.ensures.image c.in_ok-write_image_buffered-in-Ok.ensures.text;
        schedule = c.in-Ok.schedule;
        recorded = c.in-Ok.ensures.schedule;
        listed = subst (λ (bytes : List ℕ). Appends lines lines' bytes) (c.as_slice.ensures.value ∙ c.in_ok-text-in-Ok.ensures) c.in_ok-give_all-in-Ok.ensures.bytes;
        counted = c.in-Ok.ensures.figures;
      },
      c.with_line.ensures.line,
    )
