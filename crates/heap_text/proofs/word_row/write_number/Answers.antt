use Rattle.std.proofs.Common.{arith, rules}
use Rattle.std.proofs.lemmas.Fmt.{length-decimal-le}
use Rattle.heap_text.proofs.word_row.write_number.Goals as goal

pub write_digits-begin-requires : goal.write_digits-begin-requires
write_digits-begin-requires c = (omega (arith, length-decimal-le 20 c.args.number (omega arith) (omega arith) c.ranges.number.fits), search rules)
