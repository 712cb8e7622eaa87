use Rattle.std.proofs.Common.{◌∙◌, Some, ap, sym, arith}
use Rattle.std.proofs.lemmas.List.{at_drop_all}
use Rattle.heap_text.proofs.Lemmas.TokenSteps.{decimal_some, decimal_short, decimal_digits, decimal_so_far, decimal_value, read_on}
use Rattle.heap_text.proofs.line_parser.tokens.parse_number.Goals as goal

pub returns-in_err-first : goal.returns-in_err-first
returns-in_err-first c n few is = absurd (omega (arith, decimal_some n c.args.token.now few is, c.in_err-first.ensures.cases))

pub returns-then-not-is_empty : goal.returns-then-not-is_empty
returns-then-not-is_empty c n few is = absurd (grind (arith, decimal_short n c.args.token.now few is, c.in_ok-first.ensures.cases, c.is_empty.ensures, c.if-not-is_empty.true))

pub returns-then-not-is_ascii_digit : goal.returns-then-not-is_ascii_digit
returns-then-not-is_ascii_digit c n few is =
    let digit = decimal_digits n c.args.token.now few is c.loop-byte.byte-index c.loop-byte-test.true in
    absurd (omega (arith, digit.0, digit.1, c.if-not-is_ascii_digit.ensures.cases))

pub returns-in_err-checked_mul : goal.returns-in_err-checked_mul
returns-in_err-checked_mul c n few is =
    let most = decimal_so_far n c.args.token.now few is c.loop-byte.number c.loop-byte.byte-index c.loop-byte.invariant c.loop-byte-test.true in
    absurd (c.in_err-checked_mul.ensures (omega (arith, most, few)))

pub returns-in_err-number : goal.returns-in_err-number
returns-in_err-number c n few is =
    let most = decimal_so_far n c.args.token.now few is c.loop-byte.number c.loop-byte.byte-index c.loop-byte.invariant c.loop-byte-test.true in
    absurd (c.in_err-number.ensures (omega (arith, most, few, c.from.ensures, c.in_ok-checked_mul.ensures)))

pub returns : goal.returns
returns c n few is =
    ap Some (sym (at_drop_all (read_on c.loop-byte.number) c.args.token.now c.loop-byte.byte-index c.loop-byte-test.false)
    ∙ (c.loop-byte.invariant ∙ decimal_value n c.args.token.now few is))
