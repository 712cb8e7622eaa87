use Rattle.std.proofs.Common.{◌≡◌, ◌*◌, take}
use Rattle.caller_heap.proofs.collection.put_words.Given as goal

-- the words of the regions so far are those of the image
abbrev pub invariant-loop-r : goal.invariant-loop-r
invariant-loop-r l = take (l.r * l.size) l.words ≡ take (l.r * l.size) l.image.words
