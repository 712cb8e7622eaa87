use Rattle.std.proofs.Common.{refl}
use Rattle.std.specs.Fmt.{digits}
use Rattle.command_times.proofs.meter.transfer.transfers_have_lines.Goals as goal

pub returns-clause-whole : goal.returns-clause-whole
unfolding digits
returns-clause-whole c = refl

pub returns-clause-again : goal.returns-clause-again
unfolding digits
returns-clause-again c = refl

pub returns-clause-pipe : goal.returns-clause-pipe
unfolding digits
returns-clause-pipe c = refl

pub returns-clause-first : goal.returns-clause-first
unfolding digits
returns-clause-first c = refl

pub returns-clause-slow : goal.returns-clause-slow
unfolding digits
returns-clause-slow c = refl

pub returns-clause-grown : goal.returns-clause-grown
unfolding digits
returns-clause-grown c = refl

pub returns-clause-empty : goal.returns-clause-empty
unfolding digits
returns-clause-empty c = refl
