use Rattle.std.specs.Int.{w64}
use Rattle.std.proofs.lemmas.Nat.Bits.{bit_at_not}
use Rattle.object_heap.proofs.bits.complement.Goals as goal

pub returns-clause-bits : goal.returns-clause-bits
returns-clause-bits c = λ j l. bit_at_not w64 c.args.word j c.ranges.word.fits l
