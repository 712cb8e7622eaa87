use Rattle.coded_redirection.proofs.laws.opaque_objects_have_their_sizes.Goals as goal
use Rattle.coded_redirection.proofs.Lemmas.Opaque.{opaque-HasSameObjects, opaque-HasSamePlan, live-inside}

pub returns : goal.returns
returns c = record { objects = opaque-HasSameObjects; plan = opaque-HasSamePlan; inside = live-inside }
