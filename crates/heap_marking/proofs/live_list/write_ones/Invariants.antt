use Rattle.std.proofs.Common.{◌≡◌, ◌+◌, ◌++◌, length, take}
use Rattle.std.specs.Prelude.{map}
use Rattle.object_heap.specs.Bits.{ones_of}
use Rattle.heap_marking.proofs.live_list.write_ones.Given as goal

-- what is written, and what is left of the word, are what was there and the whole word
abbrev pub invariant-loop-rest : goal.invariant-loop-rest
invariant-loop-rest l = record {
  room : length l.list ≡ length l.initial.list;
  next : l.next + length (ones_of l.rest) ≡ l.first + length (ones_of l.word);
  written : take l.next l.list ++ map (λ j. l.base + j) (ones_of l.rest) ≡ take l.first l.initial.list ++ map (λ j. l.base + j) (ones_of l.word);
}

-- each turn takes one bit
abbrev pub decreases-loop-rest : goal.decreases-loop-rest
decreases-loop-rest l = length (ones_of l.rest)
