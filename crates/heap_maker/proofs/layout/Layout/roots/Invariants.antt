use Rattle.std.proofs.Common.{◌≤◌, length}
use Rattle.heap_maker.proofs.layout.Layout.roots.Given as goal

abbrev pub invariant-loop-i : goal.invariant-loop-i
invariant-loop-i l = length l.roots.items ≤ l.i
