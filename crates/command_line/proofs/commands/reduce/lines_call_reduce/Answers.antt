use Rattle.std.proofs.Common.{refl}
use Rattle.clap.proofs.OnLiterals.{clap_on_literals}
use Rattle.command_line.proofs.commands.reduce.lines_call_reduce.Goals as goal

pub returns-clause-line : goal.returns-clause-line
unfolding clap_on_literals
returns-clause-line c = (refl, refl)

pub returns-clause-options : goal.returns-clause-options
unfolding clap_on_literals
returns-clause-options c = (refl, refl)
