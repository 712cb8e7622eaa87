use Rattle.std.proofs.Common.{◌≡◌, ◌+◌, ◌-◌, arith}
use Rattle.std.proofs.lemmas.Fmt.{length-decimal-le}
use Rattle.std.proofs.lemmas.List.{drop-set}
use Rattle.heap_text.proofs.word_row.put_number.Goals as goal

pub write_digits-begin-requires : goal.write_digits-begin-requires
write_digits-begin-requires c = (omega (arith, length-decimal-le 20 c.args.number (omega arith) (omega arith) c.ranges.number.fits, c.requires.room), c.requires.inside)

pub overflow_sub-begin : goal.overflow_sub-begin
overflow_sub-begin c = omega (arith, length-decimal-le 20 c.args.number (omega arith) (omega arith) c.ranges.number.fits, c.requires.room, c.write_digits-begin.ensures.start)

pub returns-clause-near : goal.returns-clause-near
returns-clause-near c = omega (arith, length-decimal-le 20 c.args.number (omega arith) (omega arith) c.ranges.number.fits, c.requires.room, c.write_digits-begin.ensures.start)

pub returns-clause-text : goal.returns-clause-text
returns-clause-text c =
    let w = c.write_digits-begin in
    let short = length-decimal-le 20 c.args.number (omega arith) (omega arith) c.ranges.number.fits in
    let e : w.result - 1 + 1 ≡ w.result = omega (arith, short, c.requires.room, w.ensures.start) in
    rw (drop-set w.new.buf (w.result - 1) 32 (omega (arith, short, c.requires.room, c.requires.inside, w.ensures.start)), e, w.ensures.written)
