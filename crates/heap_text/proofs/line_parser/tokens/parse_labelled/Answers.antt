use Rattle.std.proofs.Common.{◌≡◌, ◌∙◌, sym, true, false, decimal}
use Rattle.heap_text.proofs.Lemmas.TokenSteps.{begins_with}
use Rattle.heap_text.proofs.line_parser.tokens.parse_labelled.Goals as goal

pub returns-in_err-strip_prefix : goal.returns-in_err-strip_prefix
returns-in_err-strip_prefix c n few is =
    let no : true ≡ false = sym (begins_with c.args.line.now c.args.label.now (decimal n) is) ∙ c.in_err-strip_prefix.ensures.cases in
    cc
