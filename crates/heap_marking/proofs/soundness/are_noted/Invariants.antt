use Rattle.std.proofs.Common.{◌<◌, ◌≤◌, ℕ, get_or}
use Rattle.heap_marking.proofs.soundness.are_noted.Given as goal

abbrev pub invariant-loop-size : goal.invariant-loop-size
invariant-loop-size l = (k : ℕ) → k < l.size-index → l.least ≤ get_or l.sizes k 0
