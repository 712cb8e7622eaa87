use Rattle.summary.proofs.laws.deferred_objects.moved_objects.Goals as goal
use Rattle.summary.proofs.Lemmas.Updates.{moved-carried, moved-header, moved-reference}

pub returns : goal.returns
returns c = record { word = moved-carried; header = moved-header; reference = moved-reference }
