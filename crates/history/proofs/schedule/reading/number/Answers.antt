use Rattle.std.proofs.Common.{◌≡◌, sym, ap, ◌∙◌, arith}
use Rattle.std.specs.Prelude.{decimal}
use Rattle.std.proofs.lemmas.Bool.{both_ways}
use Rattle.std.proofs.lemmas.Str.{IsUtf8-from_ascii}
use Rattle.std.proofs.lemmas.Fmt.{parse-decimal, IsAscii-decimal}
use Rattle.history.proofs.schedule.reading.number.Goals as goal

pub returns-in_default : goal.returns-in_default
returns-in_default c = λ n few same. c.in_default.ensures.cases.0 (rw same (IsUtf8-from_ascii (decimal n) (IsAscii-decimal n (omega arith))))

pub returns-in_default-parse : goal.returns-in_default-parse
returns-in_default-parse c = λ n few same.
    let read = parse-decimal 32 n c.in-Ok.digits.now c.parse.result few (omega arith) (c.in-Ok.ensures.cases.0 ∙ same) c.parse.ensures.value.0 in
    c.in_default-parse.not-Ok n read

pub returns-else-is_decimal : goal.returns-else-is_decimal
returns-else-is_decimal c = λ n few same.
    let read = parse-decimal 32 n c.in-Ok.digits.now c.parse.result few (omega arith) (c.in-Ok.ensures.cases.0 ∙ same) c.parse.ensures.value.0 in
    let e : c.in-Ok-parse.n ≡ n = (let a = c.in-Ok-parse.is in cc) in
    both_ways c.is_decimal.result c.if-is_decimal.false (c.is_decimal.ensures.1 (same ∙ ap decimal (sym e)))
