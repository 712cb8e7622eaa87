use Rattle.std.proofs.Common.{take}
use Rattle.schedule_timeline.specs.FirstCalls.{AreFirst}
use Rattle.schedule_timeline.specs.Log.{log_of}
use Rattle.schedule_timeline.proofs.timeline.first_calls.first_calls.Given as goal

abbrev pub invariant-loop-i : goal.invariant-loop-i
invariant-loop-i l = AreFirst l.deed l.regions (take l.i (log_of l.schedule)) l.calls.items
