use Rattle.std.proofs.Common.{◌≤◌, ℕ, refl, sym, subst, arith, codes}
use Rattle.std.specs.Prelude.{flat_map}
use Rattle.std.specs.List.{AllByRecursion}
use Rattle.object_heap.specs.HeapImage.{roots_of}
use Rattle.heap_text.specs.Text.{reference_text}
use Rattle.heap_text.proofs.Lemmas.ParseSteps.{roots_line_is, roots_token, roots_after, roots_low, roots_few, heap_begins}
use Rattle.heap_text.proofs.Lemmas.PartSteps.{accepts_error, other_name}
use Rattle.std.proofs.lemmas.Result.{err_from_is_err_and}
use Rattle.heap_text.proofs.line_parser.LineParser.parse_roots.Goals as goal

pub returns : goal.returns
returns c image rest valid p one =
    let line = roots_line_is image c.args.line.now rest valid p.rooted one p.rest in
    let parts = c.of.ensures.split (codes "roots") (flat_map reference_text (roots_of image)) roots_token (roots_after (roots_of image)) line.0 in
    let roots = c.in_ok-parse_roots.ensures.accepts (roots_of image)
    (subst (λ (n : ℕ). AllByRecursion (λ w. w ≤ n) (roots_of image)) (sym p.len) (roots_low image valid))
    (omega (arith, p.len, roots_few image valid)) p.empty.roots parts.1 in
    heap_begins image _ rest valid (record { words = p.empty.words; len = p.empty.len; live = p.empty.live; roots = refl; follows = p.empty.follows }) p.head p.len roots line.1

pub returns-then-ne : goal.returns-then-ne
returns-then-ne c image rest valid p one =
    let line = roots_line_is image c.args.line.now rest valid p.rooted one p.rest in
    let parts = c.of.ensures.split (codes "roots") (flat_map reference_text (roots_of image)) roots_token (roots_after (roots_of image)) line.0 in
    other_name c.of.result.0.now c.as_slice.result.now (codes "roots") c.if-ne.ensures c.as_slice.ensures parts.0

pub returns-in_err-parse_roots : goal.returns-in_err-parse_roots
returns-in_err-parse_roots c image rest valid p one =
    let line = roots_line_is image c.args.line.now rest valid p.rooted one p.rest in
    let parts = c.of.ensures.split (codes "roots") (flat_map reference_text (roots_of image)) roots_token (roots_after (roots_of image)) line.0 in
    let e = err_from_is_err_and c.from_residual.result c.from_residual.ensures.1 in
    rw (e.1, e.2) (accepts_error c.in_err-parse_roots.field-0.0 _ _ (c.in_err-parse_roots.ensures.accepts (roots_of image)
    (subst (λ (n : ℕ). AllByRecursion (λ w. w ≤ n) (roots_of image)) (sym p.len) (roots_low image valid))
    (omega (arith, p.len, roots_few image valid)) p.empty.roots parts.1))
