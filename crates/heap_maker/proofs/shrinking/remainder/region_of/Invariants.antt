use Rattle.std.proofs.Common.{◌≡◌, length}
use Rattle.heap_maker.proofs.shrinking.remainder.region_of.Given as goal

abbrev pub invariant-loop-i : goal.invariant-loop-i
invariant-loop-i l = length l.region ≡ l.region_words
