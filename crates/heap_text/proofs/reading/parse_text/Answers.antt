use Rattle.std.proofs.Common.{[], ◌∙◌, append-nil}
use Rattle.std.proofs.lemmas.Result.{err_from_is_err_and}
use Rattle.heap_text.proofs.Lemmas.ImageSteps.{text_error}
use Rattle.heap_text.proofs.reading.parse_text.Goals as goal

pub returns-in_err-parse_lines-clause-accepts : goal.returns-in_err-parse_lines-clause-accepts
returns-in_err-parse_lines-clause-accepts c image valid is =
    let p = err_from_is_err_and c.from_residual.result c.from_residual.ensures.1 in
    rw (p.1, p.2) (text_error c.in_err-parse_lines.field-0.0 _ _ (c.in_err-parse_lines.ensures.accepts image [] valid (c.new-parser.ensures.waits image c.args.text.now [] (append-nil c.args.text.now ∙ is))))

pub returns-clause-accepts : goal.returns-clause-accepts
returns-clause-accepts c image valid is =
    c.finish.ensures.accepts image valid (c.in_ok-parse_lines.ensures.accepts image [] valid (c.new-parser.ensures.waits image c.args.text.now [] (append-nil c.args.text.now ∙ is)))
