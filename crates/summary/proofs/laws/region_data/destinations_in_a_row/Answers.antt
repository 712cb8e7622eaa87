use Rattle.summary.proofs.laws.region_data.destinations_in_a_row.Goals as goal
use Rattle.summary.proofs.Lemmas.Steps.{destination-prefix, destination-next, destination-top}

pub returns : goal.returns
returns c = record { prefix = destination-prefix; next = destination-next; top = destination-top }
