use Rattle.std.proofs.Common.{◌≡◌, ◌∙◌, ◌++◌, ℕ, List}
use Rattle.std.proofs.lemmas.Result.{err_from_is_err_and}
use Rattle.heap_text.specs.Text.{lines_from, text_of}
use Rattle.heap_text.proofs.Lemmas.ImageSteps.{text_error}
use Rattle.heap_text.proofs.Lemmas.TextSteps.{first_lines, rest_follows}
use Rattle.heap_text.proofs.spelling.check_spelling.Goals as goal

pub returns-in_err-rest-clause-accepts : goal.returns-in_err-rest-clause-accepts
returns-in_err-rest-clause-accepts c right =
    let lines : List ℕ = c.as_slice.result.now in
    let more : List ℕ = lines_from c.args.image.now 0 c.args.image.now.live in
    let whole : text_of c.args.image.now ≡ lines ++ more =
    first_lines c.args.image.now c.new-lines.result.items c.write_front.new.text.items c.write_roots_line.new.text.items lines
    c.new-lines.ensures.items c.in_ok-write_front.ensures c.in_ok-write_roots_line.ensures c.as_slice.ensures.value in
    let e = err_from_is_err_and c.from_residual-in_err-rest.result c.from_residual-in_err-rest.ensures.1 in
    rw (e.1, e.2) (text_error c.in_err-rest.field-0.0 _ _ (c.in_err-rest.ensures.accepts more (right ∙ whole)))

pub returns-clause-accepts : goal.returns-clause-accepts
returns-clause-accepts c right =
    let lines : List ℕ = c.as_slice.result.now in
    let more : List ℕ = lines_from c.args.image.now 0 c.args.image.now.live in
    let whole : text_of c.args.image.now ≡ lines ++ more =
    first_lines c.args.image.now c.new-lines.result.items c.write_front.new.text.items c.write_roots_line.new.text.items lines
    c.new-lines.ensures.items c.in_ok-write_front.ensures c.in_ok-write_roots_line.ensures c.as_slice.ensures.value in
    c.check_heap_lines.ensures.accepts (rest_follows lines c.args.text.now c.in_ok-rest.rest.now more c.in_ok-rest.ensures.rest (right ∙ whole))
