use Rattle.heap_text.proofs.Lemmas.WaitSteps.{at_end, nothing_unfinished}
use Rattle.heap_text.proofs.text_parser.TextParser.finish.Goals as goal

pub returns-then-begin-text-clause-accepts : goal.returns-then-begin-text-clause-accepts
returns-then-begin-text-clause-accepts c image valid w = nothing_unfinished image valid c.args.self c.args.text.now w c.if-begin-text.true

pub returns-in-Ok-clause-accepts : goal.returns-in-Ok-clause-accepts
returns-in-Ok-clause-accepts c image valid w = c.in-Ok.ensures image valid (at_end image c.args.self c.args.text.now w c.if-begin-text.false)
