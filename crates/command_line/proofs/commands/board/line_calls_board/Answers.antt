use Rattle.std.proofs.Common.{refl}
use Rattle.clap.proofs.OnLiterals.{clap_on_literals}
use Rattle.command_line.proofs.commands.board.line_calls_board.Goals as goal

pub returns-clause-line : goal.returns-clause-line
unfolding clap_on_literals
returns-clause-line c = (refl, refl)

pub returns-clause-steps : goal.returns-clause-steps
unfolding clap_on_literals
returns-clause-steps c = (refl, refl)
