use Rattle.scheduler.specs.History.{state_of}
use Rattle.scheduler.proofs.Lemmas.GoingOn.{lowest_read}
use Rattle.scheduler.proofs.Lemmas.Reaches.{legal_reached}
use Rattle.scheduler.proofs.laws.going_on.lowest_unfilled_regions_are_read.Goals as goal

pub returns : goal.returns
returns c m workers log r table legal below = lowest_read m (state_of log) r table (legal_reached m workers log legal) below
