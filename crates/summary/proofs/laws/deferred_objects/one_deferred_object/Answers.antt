use Rattle.summary.proofs.laws.deferred_objects.one_deferred_object.Goals as goal
use Rattle.summary.proofs.Lemmas.Objects.{deferred-one, deferred-told, deferred-Some, deferred-None}

pub returns : goal.returns
returns c = record { one = deferred-one; address = deferred-told; object = deferred-Some; none = deferred-None }
