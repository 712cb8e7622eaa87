use Rattle.scheduler.proofs.Lemmas.Books.{step_fits}
use Rattle.scheduler.proofs.Lemmas.SmallLines.{line_small}
use Rattle.scheduler.proofs.laws.line_laws.calls_are_lines.Goals as goal

pub returns : goal.returns
returns c = record { call = step_fits; small = line_small }
