use Rattle.std.proofs.Common.{rules}
use Rattle.command_line.specs.Request.{rows_in}
use Rattle.heap_commands.proofs.import.answer.Goals as goal

pub returns-in_ok-finished-in-Ok-clause-printed : goal.returns-in_ok-finished-in-Ok-clause-printed
returns-in_ok-finished-in-Ok-clause-printed g c = (rows_in c.args.request, search rules)
