use Rattle.std.proofs.Common.{◌-◌}
use Rattle.dump_objects.proofs.heap.UnsealedHeap.copy_from.Given as goal

abbrev pub decreases-loop-done : goal.decreases-loop-done
decreases-loop-done l = l.count - l.done
