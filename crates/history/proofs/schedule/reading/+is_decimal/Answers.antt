use Rattle.std.proofs.Common.{◌≡◌, ◌+◌, ◌%◌, ◌≤◌, ◌<◌, length, sym, ap, ◌∙◌, arith}
use Rattle.std.specs.Prelude.{decimal}
use Rattle.std.proofs.lemmas.Bool.{false≢true, eqb-true, eq-eqb}
use Rattle.std.proofs.lemmas.Fmt.{decimal_nonempty}
use Rattle.history.proofs.Lemmas.Texts.{last_digit, digits_of_short, digits_of_long, digits_more, digits_one, empty_is}
use Rattle.history.proofs.schedule.reading.+is_decimal.Goals as goal

pub returns-in_default : goal.returns-in_default
returns-in_default t c = (
  λ e. absurd (false≢true e),
  λ same.
      let none : length c.args.text.now ≡ 0 = c.in_default.ensures.cases in
      let some : 0 < length (decimal c.args.n) = decimal_nonempty c.args.n (omega arith) in
      let long = ap length same in
      let no : ⊥ = omega arith in absurd no,
)

pub returns-then-from-n : goal.returns-then-from-n
returns-then-from-n t c = (
  λ e. absurd (false≢true e),
  λ same.
      let last : c.in-Some.last.now ≡ 48 + c.args.n % 10 = last_digit c.args.n c.in-Some.last.now c.in-Some.front.now (omega arith) (sym c.in-Some.ensures.cases.0 ∙ same) in
      let no : ⊥ = omega arith in absurd no,
)

pub returns-then-n-lt10 : goal.returns-then-n-lt10
returns-then-n-lt10 t c =
    let short : c.args.n < 10 = c.if-n-lt10.true in
    let last : c.in-Some.last.now ≡ 48 + c.args.n % 10 = omega arith in (
      λ e. c.in-Some.ensures.cases.0 ∙ digits_one c.args.n c.in-Some.last.now c.in-Some.front.now short last (empty_is c.in-Some.front.now (eqb-true (length c.in-Some.front.now) 0 (sym c.is_empty.ensures ∙ e))),
      λ same. c.is_empty.ensures ∙ eq-eqb (length c.in-Some.front.now) 0 (ap length (digits_of_short c.args.n c.in-Some.last.now c.in-Some.front.now short (sym c.in-Some.ensures.cases.0 ∙ same)).0),
    )

pub returns-else-n-lt10 : goal.returns-else-n-lt10
returns-else-n-lt10 t c =
    let long : 10 ≤ c.args.n = c.if-n-lt10.false in
    let last : c.in-Some.last.now ≡ 48 + c.args.n % 10 = omega arith in (
      λ e. c.in-Some.ensures.cases.0 ∙ digits_more c.args.n c.in-Some.last.now c.in-Some.front.now long (omega arith) last (c.is_decimal.ensures.0 e),
      λ same. c.is_decimal.ensures.1 (digits_of_long c.args.n c.in-Some.last.now c.in-Some.front.now long (omega arith) (sym c.in-Some.ensures.cases.0 ∙ same)).0,
    )
