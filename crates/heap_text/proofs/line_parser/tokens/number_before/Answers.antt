use Rattle.std.proofs.Common.{◌∙◌, ◌<◌, refl, sym, decimal, length, arith}
use Rattle.heap_text.proofs.Lemmas.TokenSteps.{decimal_some, decimal_short, digit_there}
use Rattle.heap_text.proofs.line_parser.tokens.number_before.Goals as goal

pub returns-then-count-eq0-clause-number : goal.returns-then-count-eq0-clause-number
returns-then-count-eq0-clause-number c n rest few after is count =
    absurd (omega (arith, count, c.if-count-eq0.true, decimal_some n (decimal n) few refl))

pub returns-then-bytes-eq48-clause-number : goal.returns-then-bytes-eq48-clause-number
returns-then-bytes-eq48-clause-number c n rest few after is count =
    let some : 0 < length (decimal n) = decimal_some n (decimal n) few refl in
    let one = decimal_short n (decimal n) few refl (sym (digit_there n rest c.args.bytes.now few after is 0 some) ∙ c.if-bytes-eq48.true) in
    absurd (omega (arith, count, one, c.if-count-gt1.true))
