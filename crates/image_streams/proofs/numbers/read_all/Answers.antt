use Rattle.std.proofs.Common.{arith}
use Rattle.image_streams.proofs.Lemmas.Reading.{numbers_read}
use Rattle.image_streams.proofs.numbers.read_all.Goals as goal

pub returns : goal.returns
returns c = let long = c.read_u64_into.auto.dst in let room = c.requires in numbers_read c.read_u64_into.new.dst c.args.bytes.now (λ i. omega (arith, c.type_inv.bytes i)) (omega arith) c.read_u64_into.ensures
