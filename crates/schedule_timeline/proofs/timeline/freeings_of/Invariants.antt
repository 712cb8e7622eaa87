use Rattle.std.proofs.Common.{◌≡◌, take}
use Rattle.std.specs.List.{enumerate_from, filter_map}
use Rattle.schedule_timeline.specs.Log.{log_of}
use Rattle.schedule_timeline.specs.Timeline.{freeing_if}
use Rattle.schedule_timeline.proofs.timeline.freeings_of.Given as goal

abbrev pub invariant-loop-i : goal.invariant-loop-i
invariant-loop-i l = l.freeings.items ≡ filter_map (freeing_if (log_of l.schedule)) (enumerate_from 0 (take l.i (log_of l.schedule)))
