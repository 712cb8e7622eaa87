use Rattle.std.proofs.Common.{arith}
use Rattle.mark_bitmap.proofs.part_bits.insert.Goals as goal

pub returns-clause-bits : goal.returns-clause-bits
returns-clause-bits c = λ k. c.inserted_bit.ensures c.args.words.now c.args.i k (omega arith)
