use Rattle.std.proofs.Common.{◌-◌}
use Rattle.dump_objects.proofs.live_only.survivors.Survivors.of.Given as goal

abbrev pub decreases-loop-at : goal.decreases-loop-at
decreases-loop-at l = l.end - l.at
