use Rattle.std.proofs.Common.{◌≡◌, take}
use Rattle.history.proofs.machine.replaying.words_of.Given as goal

abbrev pub invariant-loop-a : goal.invariant-loop-a
invariant-loop-a l = l.words.items ≡ take l.a l.image.words
