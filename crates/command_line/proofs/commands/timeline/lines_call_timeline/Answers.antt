use Rattle.std.proofs.Common.{refl}
use Rattle.clap.proofs.OnLiterals.{clap_on_literals}
use Rattle.command_line.proofs.commands.timeline.lines_call_timeline.Goals as goal

pub returns-clause-line : goal.returns-clause-line
unfolding clap_on_literals
returns-clause-line c = (refl, refl)

pub returns-clause-drawing : goal.returns-clause-drawing
unfolding clap_on_literals
returns-clause-drawing c = (refl, refl)

pub returns-clause-page : goal.returns-clause-page
unfolding clap_on_literals
returns-clause-page c = (refl, refl)

pub returns-clause-looks : goal.returns-clause-looks
unfolding clap_on_literals
returns-clause-looks c = (refl, refl)
