use Rattle.scheduler.proofs.Lemmas.GoingOnCounts.{freed_once, never_freed}
use Rattle.scheduler.proofs.laws.going_on.regions_are_freed_once.Goals as goal

pub returns-clause-freed : goal.returns-clause-freed
returns-clause-freed c = freed_once

pub returns-clause-ready : goal.returns-clause-ready
returns-clause-ready c = never_freed
