use Rattle.std.proofs.Common.{◌≡◌, ◌*◌, count_by}
use Rattle.std.specs.List.{range_with_len}
use Rattle.object_heap.specs.Bits.{has}
use Rattle.object_heap.proofs.bits.ones_of.Given as goal

abbrev pub invariant-loop-word : goal.invariant-loop-word
invariant-loop-word l = l.count ≡ count_by (has l.words) (range_with_len 0 (64 * l.word-index))
