use Rattle.history.proofs.Lemmas.DrainedBefore.{drained_before}
use Rattle.history.proofs.laws.drained_before_written.Goals as goal

pub returns : goal.returns
returns c = drained_before c.machine_laws.ensures
