use Rattle.summary.proofs.laws.region_data.regions_to_fill.Goals as goal
use Rattle.summary.proofs.Lemmas.Steps.{to_fill-count, fill_count-le, top-le}
use Rattle.summary.proofs.Lemmas.Fillers.{top-above}

pub returns : goal.returns
returns c = record { count = to_fill-count; few = fill_count-le; top = top-le; prefix = top-above }
