use Rattle.std.proofs.Common.{arith}
use Rattle.heap_text.proofs.Lemmas.ParseSteps.{heap_end, contents}
use Rattle.heap_text.proofs.line_parser.LineParser.finish_heap.Goals as goal

pub returns-then-here-self : goal.returns-then-here-self
returns-then-here-self c image valid p = contents image valid c.args.self p

pub returns-else-here-self : goal.returns-else-here-self
returns-else-here-self c image valid p =
    let end = heap_end image valid c.args.self p in
    absurd (c.if-here-self.false (omega (arith, end.1, p.len, c.len-here.ensures)))
