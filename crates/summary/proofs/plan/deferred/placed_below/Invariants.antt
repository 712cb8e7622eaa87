use Rattle.std.proofs.Common.{ℕ, ◌-◌, ◌≤◌, ◌<◌}
use Rattle.summary.specs.LiveObjects.{object_count, object_at}
use Rattle.summary.specs.NewAddresses.{new_address}
use Rattle.summary.proofs.plan.deferred.placed_below.Given as goal

abbrev pub invariant-loop-placed : goal.invariant-loop-placed
invariant-loop-placed l = record {
  within : l.placed ≤ object_count l.image;
  known : (i : ℕ) → i < l.placed → new_address l.image (object_at l.image i) < l.limit;
}

abbrev pub decreases-loop-placed : goal.decreases-loop-placed
decreases-loop-placed l = object_count l.image - l.placed
