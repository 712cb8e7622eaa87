use Rattle.summary.proofs.laws.compaction.references_lead_to_the_same_objects.Goals as goal
use Rattle.summary.proofs.Lemmas.Graph.{reference-object, reference-null}

pub returns : goal.returns
returns c = record { object = reference-object; null = reference-null }
