use Rattle.std.proofs.Common.{◌≡◌, length}
use Rattle.heap_dump.proofs.heap.roots.marks_of.Given as goal

abbrev pub invariant-loop-address : goal.invariant-loop-address
invariant-loop-address l = length l.marks.items ≡ l.words
