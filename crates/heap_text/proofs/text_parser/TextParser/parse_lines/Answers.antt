use Rattle.std.proofs.Common.{◌≡◌, ◌+◌, ◌-◌, ◌<◌, ◌++◌, ℕ, List, refl, sym, ap, ◌∙◌, subst, length, get_or, take, drop, arith, take_all, length-drop}
use Rattle.std.proofs.lemmas.Result.{err_from_is_err_and}
use Rattle.heap_text.specs.Parsing.{Expects}
use Rattle.heap_text.specs.TextLines.{EndsInLine}
use Rattle.heap_text.proofs.Lemmas.ImageSteps.{text_error}
use Rattle.heap_text.proofs.Lemmas.TextSteps.{ends_further, ends_after_newline}
use Rattle.heap_text.proofs.Lemmas.WaitSteps.{finds_newline, line_alone, line_at, passes_none, waits_further}
use Rattle.heap_text.proofs.text_parser.TextParser.parse_lines.Goals as goal

pub returns-in_err-parse_line-clause-accepts : goal.returns-in_err-parse_line-clause-accepts
returns-in_err-parse_line-clause-accepts c image more valid p =
    let text : List ℕ = c.args.text.now in
    let begin : ℕ = c.loop-ahead.self.begin in
    let place : ℕ = c.loop-ahead.place in
    let end : ℕ = place + c.in-Some.ahead in
    let rest : take (length text - place) (drop place text) ≡ drop place text = take_all (length text - place) (drop place text) (omega (arith, length-drop place text)) in
    let inside : end < length text = omega (arith, c.in-Some.ensures.0.high, ap (λ (xs : List ℕ). length xs) rest, length-drop place text) in
    let newline : get_or text end 0 ≡ 10 = finds_newline text (take (length text - place) (drop place text)) place rest c.in-Some.ahead c.in-Some.ensures.1 in
    let s = ends_further text place end c.loop-ahead.self.line begin c.loop-ahead.invariant.stands (omega arith) (omega (arith, inside)) in
    let q = waits_further image c.loop-ahead.self text place end more (c.loop-ahead.invariant.waits image more valid p) (omega arith) (omega (arith, inside))
    (passes_none text (take (length text - place) (drop place text)) place rest c.in-Some.ahead end refl c.in-Some.ensures.0.before) in
    let e = err_from_is_err_and c.from_residual.result c.from_residual.ensures.1 in
    rw (e.1, e.2) (text_error c.in_err-parse_line.field-0.0 _ _ (c.in_err-parse_line.ensures.accepts image (drop (end + 1) text ++ more) valid
    (subst (Expects image c.loop-ahead.self.parser) (line_at text more begin end s.begun inside newline) q.expects)
    (line_alone text begin end s.begun q.one_line)))

pub loop-ahead-preserved : goal.loop-ahead-preserved
loop-ahead-preserved c =
    let text : List ℕ = c.args.text.now in
    let begin : ℕ = c.loop-ahead.self.begin in
    let place : ℕ = c.loop-ahead.place in
    let end : ℕ = place + c.in-Some.ahead in
    let rest : take (length text - place) (drop place text) ≡ drop place text = take_all (length text - place) (drop place text) (omega (arith, length-drop place text)) in
    let inside : end < length text = omega (arith, c.in-Some.ensures.0.high, ap (λ (xs : List ℕ). length xs) rest, length-drop place text) in
    let newline : get_or text end 0 ≡ 10 = finds_newline text (take (length text - place) (drop place text)) place rest c.in-Some.ahead c.in-Some.ensures.1 in
    let s = ends_further text place end c.loop-ahead.self.line begin c.loop-ahead.invariant.stands (omega arith) (omega (arith, inside)) in
    record {
      stands = subst (λ (n : ℕ). EndsInLine text (end + 1) n (end + 1)) (sym c.in_ok-parse_line.ensures.line)
          (ends_after_newline text end c.loop-ahead.self.line begin s inside newline);
      waits = λ image more valid p.
          let q = waits_further image c.loop-ahead.self text place end more (c.loop-ahead.invariant.waits image more valid p) (omega arith) (omega (arith, inside))
          (passes_none text (take (length text - place) (drop place text)) place rest c.in-Some.ahead end refl c.in-Some.ensures.0.before) in
          record {
            expects = c.in_ok-parse_line.ensures.accepts image (drop (end + 1) text ++ more) valid
                (subst (Expects image c.loop-ahead.self.parser) (line_at text more begin end s.begun inside newline) q.expects)
                (line_alone text begin end s.begun q.one_line);
            one_line = refl;
          };
    }

pub returns-clause-accepts : goal.returns-clause-accepts
returns-clause-accepts c image more valid p =
    let text : List ℕ = c.args.text.now in
    let place : ℕ = c.loop-ahead.place in
    let low = c.loop-ahead.invariant.stands.within in
    let rest : take (length text - place) (drop place text) ≡ drop place text = take_all (length text - place) (drop place text) (omega (arith, length-drop place text)) in
    let all : length (take (length text - place) (drop place text)) ≡ length text - place = ap (λ (xs : List ℕ). length xs) rest ∙ length-drop place text in
    waits_further image c.loop-ahead.self text place (length text) more (c.loop-ahead.invariant.waits image more valid p) low (omega arith)
    (passes_none text (take (length text - place) (drop place text)) place rest (length (take (length text - place) (drop place text))) (length text) (omega (arith, low, all)) c.in_default.ensures)
