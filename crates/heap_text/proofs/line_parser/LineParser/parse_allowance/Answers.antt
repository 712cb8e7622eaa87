use Rattle.std.proofs.Common.{◌≡◌, sym, ◌∙◌}
use Rattle.heap_text.specs.Parsing.{HasHead}
use Rattle.heap_text.proofs.Lemmas.PartSteps.{none_some, some_same}
use Rattle.heap_text.proofs.Lemmas.ParseSteps.{allowance_line, front_ends}
use Rattle.heap_text.proofs.line_parser.LineParser.parse_allowance.Goals as goal

pub returns-in_default : goal.returns-in_default
returns-in_default c image rest valid p one =
    let line = allowance_line image c.args.line.now rest valid one p.rest in
    absurd (none_some image.allowance (sym c.in_default.is ∙ c.parse_labelled.ensures image.allowance valid.allowance_fits (line.0 ∙ cc)))

pub returns : goal.returns
returns c image rest valid p one =
    let line = allowance_line image c.args.line.now rest valid one p.rest in
    let allowance : c.in-Some.allowance ≡ image.allowance = some_same c.in-Some.allowance image.allowance (c.in-Some.ensures image.allowance valid.allowance_fits (line.0 ∙ cc)) in
    let head : HasHead image c.args.self.now.heap.version c.args.self.now.heap.region_log c.in-Some.allowance =
    record { version = p.version; region_log = p.region_log; allowance = allowance } in
    front_ends image _ c.line_after_allowance-self.result rest valid p.empty head p.len c.line_after_allowance-self.ensures.rooted c.line_after_allowance-self.ensures.plain line.1
