use Rattle.std.proofs.Common.{sym, ◌∙◌}
use Rattle.heap_text.proofs.Lemmas.PartSteps.{none_some, some_same}
use Rattle.heap_text.proofs.Lemmas.ParseSteps.{version_line}
use Rattle.heap_text.proofs.line_parser.LineParser.parse_version.Goals as goal

pub returns-in_default : goal.returns-in_default
returns-in_default c image rest p one =
    let line = version_line image c.args.line.now rest one p.rest in
    absurd (none_some image.version (sym c.in_default.is ∙ c.parse_version_line.ensures image line.0))

pub returns : goal.returns
returns c image rest p one =
    let line = version_line image c.args.line.now rest one p.rest in
    record {
      empty = p.empty;
      version = some_same c.in-Some.version image.version (c.in-Some.ensures image line.0);
      rest = line.1;
    }
