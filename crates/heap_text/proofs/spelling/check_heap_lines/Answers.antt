use Rattle.std.proofs.Common.{◌≡◌, ◌∙◌, ◌+◌, ◌++◌, ℕ, List, sym, ap, length, drop, arith, length-append}
use Rattle.std.proofs.lemmas.Result.{err_from_is_err_and}
use Rattle.heap_text.specs.Text.{lines_from}
use Rattle.heap_text.proofs.Lemmas.ImageSteps.{text_error}
use Rattle.heap_text.proofs.Lemmas.TextSteps.{next_lines, rest_follows}
use Rattle.heap_text.proofs.spelling.check_heap_lines.Goals as goal

pub returns-in_err-rest-clause-accepts : goal.returns-in_err-rest-clause-accepts
returns-in_err-rest-clause-accepts c right =
    let l = c.loop-place in
    let live : List ℕ = c.live-place-items.result.now in
    let lines : List ℕ = c.as_slice.result.now in
    let more : List ℕ = lines_from c.args.image.now c.in_ok-from.from (drop (l.place-index + 1) live) in
    let step : lines_from c.args.image.now l.from (drop l.place-index live) ≡ lines ++ more =
    next_lines c.args.image.now l.from l.place-index c.in_ok-from.from live c.clear.new.self.items c.write_dead.new.text.items lines c.loop-place-test.true
    c.clear.ensures.items c.in_ok-write_dead.ensures (c.as_slice.ensures.value ∙ c.in_ok-from.ensures.text) c.in_ok-from.ensures.end in
    let e = err_from_is_err_and c.from_residual-in_err-rest.result c.from_residual-in_err-rest.ensures.1 in
    rw (e.1, e.2) (text_error c.in_err-rest.field-0.0 _ _ (c.in_err-rest.ensures.accepts more (l.invariant.accepts right ∙ step)))

pub loop-place-preserved : goal.loop-place-preserved
loop-place-preserved c =
    let l = c.loop-place in
    let live : List ℕ = c.live-place-items.result.now in
    let lines : List ℕ = c.as_slice.result.now in
    let more : List ℕ = lines_from c.args.image.now c.in_ok-from.from (drop (l.place-index + 1) live) in
    let step : lines_from c.args.image.now l.from (drop l.place-index live) ≡ lines ++ more =
    next_lines c.args.image.now l.from l.place-index c.in_ok-from.from live c.clear.new.self.items c.write_dead.new.text.items lines c.loop-place-test.true
    c.clear.ensures.items c.in_ok-write_dead.ensures (c.as_slice.ensures.value ∙ c.in_ok-from.ensures.text) c.in_ok-from.ensures.end in
    let parts : l.rest.now ≡ lines ++ c.in_ok-rest.rest.now = c.in_ok-rest.ensures.rest in
    let sizes : length l.rest.now ≡ length (lines ++ c.in_ok-rest.rest.now) = ap (λ (xs : List ℕ). length xs) parts in
    record {
      within = omega (arith, l.invariant.within, sizes, length-append lines c.in_ok-rest.rest.now);
      same = λ follows. l.invariant.same (parts ∙ (ap (λ (t : List ℕ). lines ++ t) follows ∙ sym step));
      accepts = λ right. rest_follows lines l.rest.now c.in_ok-rest.rest.now more parts (l.invariant.accepts right ∙ step);
    }
