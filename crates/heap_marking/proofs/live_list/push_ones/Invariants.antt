use Rattle.std.proofs.Common.{◌≡◌, ◌+◌, ◌++◌, length}
use Rattle.std.specs.Prelude.{map}
use Rattle.object_heap.specs.Bits.{ones_of}
use Rattle.heap_marking.proofs.live_list.push_ones.Given as goal

-- the list, and what is left of the word, are what was there and the whole word
abbrev pub invariant-loop-rest : goal.invariant-loop-rest
invariant-loop-rest l = l.live.items ++ map (λ j. l.base + j) (ones_of l.rest) ≡ l.initial.live.items ++ map (λ j. l.base + j) (ones_of l.word)

-- each turn takes one bit
abbrev pub decreases-loop-rest : goal.decreases-loop-rest
decreases-loop-rest l = length (ones_of l.rest)
