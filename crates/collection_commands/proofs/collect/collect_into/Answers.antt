use Rattle.std.proofs.Common.{inr, ◌∙◌, ap}
use Rattle.std.proofs.lemmas.Result.{err_from_is_err_and}
use Rattle.collection_commands.specs.Figures.{figures_line}
use Rattle.collection_commands.proofs.Lemmas.Written.{text_begun, appended}
use Rattle.collection_commands.proofs.collect.collect_into.Goals as goal

pub returns-in_err-write_image_buffered-in-Ok-clause-written : goal.returns-in_err-write_image_buffered-in-Ok-clause-written
returns-in_err-write_image_buffered-in-Ok-clause-written g c =
    let p = err_from_is_err_and c.from_residual-in_err-write_image_buffered-in-Ok.result c.from_residual-in_err-write_image_buffered-in-Ok.ensures.1 in
    rw (p.1) (inr (text_begun _ _ _ _ _ _ c.in_ok-image.ensures.read c.in-Ok.ensures.image c.in_err-write_image_buffered-in-Ok.ensures.beginning))

pub returns-in_ok-write_image_buffered-in-Ok-clause-collection : goal.returns-in_ok-write_image_buffered-in-Ok-clause-collection
returns-in_ok-write_image_buffered-in-Ok-clause-collection g c = (
  c.in_ok-image.image,
  c.in_ok-image.ensures.read,
  appended _ _ _ _ _ _ c.in_ok-image.ensures.read c.in-Ok.ensures.image c.in_ok-write_image_buffered-in-Ok.ensures.text,
  c.with_line.ensures.line ∙ ap figures_line c.in-Ok.ensures.figures,
)
