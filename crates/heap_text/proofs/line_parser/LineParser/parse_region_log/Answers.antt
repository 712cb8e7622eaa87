use Rattle.std.proofs.Common.{◌≡◌, sym, ap, ◌∙◌, arith}
use Rattle.object_heap.specs.Version.{max_region_log}
use Rattle.heap_text.proofs.Lemmas.PartSteps.{none_some, some_same, true_not_false}
use Rattle.heap_text.proofs.Lemmas.ParseSteps.{region_log_line}
use Rattle.heap_text.proofs.line_parser.LineParser.parse_region_log.Goals as goal

pub returns-in_default : goal.returns-in_default
returns-in_default c image rest valid p one =
    let line = region_log_line image c.args.line.now rest valid one p.rest in
    absurd (none_some image.region_log (sym c.in_default.is ∙ c.parse_labelled.ensures image.region_log (omega (arith, valid.limits.region_log_high)) (line.0 ∙ cc)))

pub returns : goal.returns
returns c image rest valid p one =
    let line = region_log_line image c.args.line.now rest valid one p.rest in
    record {
      empty = p.empty;
      version = p.version;
      region_log = some_same c.in-Some.log image.region_log (c.in-Some.ensures image.region_log (omega (arith, valid.limits.region_log_high)) (line.0 ∙ cc));
      rest = line.1;
    }

pub returns-then-not-is_region_log : goal.returns-then-not-is_region_log
returns-then-not-is_region_log c image rest valid p one =
    let line = region_log_line image c.args.line.now rest valid one p.rest in
    let log : c.in-Some.log ≡ image.region_log = some_same c.in-Some.log image.region_log (c.in-Some.ensures image.region_log (omega (arith, valid.limits.region_log_high)) (line.0 ∙ cc)) in
    let most : max_region_log c.args.self.now.heap.version ≡ max_region_log image.version = ap max_region_log p.version in
    true_not_false (sym (c.is_region_log.ensures.all (omega (arith, log, valid.limits.region_log_low)) (omega (arith, log, most, valid.allowed.region_log_high))) ∙ c.if-not-is_region_log.true)
