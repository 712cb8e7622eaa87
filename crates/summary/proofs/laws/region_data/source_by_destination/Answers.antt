use Rattle.summary.proofs.laws.region_data.source_by_destination.Goals as goal
use Rattle.summary.proofs.Lemmas.Steps.{source-at, source-is}

pub returns : goal.returns
returns c = record { at = source-at; is = source-is }
