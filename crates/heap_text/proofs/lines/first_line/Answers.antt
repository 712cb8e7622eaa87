use Rattle.std.proofs.Common.{◌+◌, ◌-◌, length}
use Rattle.heap_text.proofs.Lemmas.TextSteps.{after_newline}
use Rattle.heap_text.proofs.lines.first_line.Goals as goal

pub returns-then-byte-eq10-clause-rest : goal.returns-then-byte-eq10-clause-rest
returns-then-byte-eq10-clause-rest c =
    after_newline c.loop-i.i (length c.args.text.now - (c.loop-i.i + 1)) c.args.text.now c.loop-i-test.true c.if-byte-eq10.true
