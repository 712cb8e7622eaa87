use Rattle.summary.proofs.laws.region_data.region_data_by_objects.Goals as goal
use Rattle.summary.proofs.Lemmas.Steps.{own-objects, partial-last, partial-none, partial-crossing, partial-clear}

pub returns : goal.returns
returns c = record { own = own-objects; partial = partial-last; none = partial-none; crossing = partial-crossing; clear = partial-clear }
