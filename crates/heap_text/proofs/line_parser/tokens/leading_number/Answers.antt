use Rattle.std.proofs.Common.{◌≡◌, ◌+◌, ◌-◌, ◌*◌, ◌≤◌, ℕ, decimal, length, get_or, ◌∙◌, arith}
use Rattle.std.proofs.lemmas.Fmt.{length-decimal-le}
use Rattle.heap_text.proofs.Lemmas.TokenSteps.{below_power, safe_power, digits_inside, last_inside, next_inside, reading_begin, reading_end, reading_most, reading_step}
use Rattle.heap_text.proofs.line_parser.tokens.leading_number.Goals.{then-loop-count-test+else-is_ascii_digit, else-loop-count-test, else-count-bytes-via-then-count-bytes+else-is_ascii_digit-2, else-count-bytes-via-else-count-bytes}
use Rattle.heap_text.proofs.line_parser.tokens.leading_number.Goals as goal

pub overflow_mul-number : goal.overflow_mul-number
overflow_mul-number c =
    let below = below_power c.loop-count.number 0 c.loop-count.count c.loop-count.invariant.small (omega arith) in
    omega (arith, below, safe_power (c.loop-count.count + 1) (omega (arith, c.loop-count-test.true, c.min-most.ensures)))

pub overflow_add-number : goal.overflow_add-number
overflow_add-number c =
    let digit : c.from.result ≤ 9 = omega (arith, c.from.ensures, c.if-is_ascii_digit.ensures.cases) in
    let below = below_power c.loop-count.number c.from.result c.loop-count.count c.loop-count.invariant.small digit in
    omega (arith, below, safe_power (c.loop-count.count + 1) (omega (arith, c.loop-count-test.true, c.min-most.ensures)))

pub loop-count-init : goal.loop-count-init
loop-count-init c = record {
  within = omega arith;
  small = omega arith;
  reads = λ n rest few after is. reading_begin n;
}

pub loop-count-preserved : goal.loop-count-preserved
loop-count-preserved c =
    let l = c.loop-count in
    let bytes = c.args.bytes.now in
    let digit : c.from.result ≤ 9 = omega (arith, c.from.ensures, c.if-is_ascii_digit.ensures.cases) in
    record {
      within = omega (arith, c.loop-count-test.true);
      small = below_power l.number c.from.result l.count l.invariant.small digit;
      reads = λ n rest few after is.
          let r = l.invariant.reads n rest few after is in
          let inside = next_inside n rest bytes few after is l.count l.number r (omega (arith, c.loop-count-test.true, c.min-most.ensures)) (omega (arith, c.if-is_ascii_digit.ensures.cases)) in
          rw c.from.ensures (reading_step n rest bytes few after is l.count l.number r inside);
    }

pub returns-in_err-checked_mul-clause-number : goal.returns-in_err-checked_mul-clause-number
returns-in_err-checked_mul-clause-number c n rest few after is =
    let l = c.loop-count in
    let bytes = c.args.bytes.now in
    let r = l.invariant.reads n rest few after is in
    let inside = next_inside n rest bytes few after is l.count l.number r (omega (arith, c.if-count-bytes.true)) (omega (arith, c.if-is_ascii_digit-2.ensures.cases)) in
    absurd (c.in_err-checked_mul.ensures (omega (arith, few, reading_most n rest bytes few after is l.count l.number r inside)))

pub returns-in_err-longer-clause-number : goal.returns-in_err-longer-clause-number
returns-in_err-longer-clause-number c n rest few after is =
    let l = c.loop-count in
    let bytes = c.args.bytes.now in
    let r = l.invariant.reads n rest few after is in
    let inside = next_inside n rest bytes few after is l.count l.number r (omega (arith, c.if-count-bytes.true)) (omega (arith, c.if-is_ascii_digit-2.ensures.cases)) in
    absurd (c.in_err-longer.ensures (omega (arith, few, c.from-digit.ensures, c.in_ok-checked_mul.ensures, reading_most n rest bytes few after is l.count l.number r inside)))

pub returns-then-is_ascii_digit-2-clause-number : goal.returns-then-is_ascii_digit-2-clause-number
returns-then-is_ascii_digit-2-clause-number c n rest few after is =
    let l = c.loop-count in
    let bytes = c.args.bytes.now in
    let longer : ℕ = l.number * 10 + (get_or bytes l.count 0 - 48) in
    let r = l.invariant.reads n rest few after is in
    let inside = next_inside n rest bytes few after is l.count l.number r (omega (arith, c.if-count-bytes.true)) (omega (arith, c.if-is_ascii_digit-2.ensures.cases)) in
    let past : 19 ≤ l.count = elim c.loop-count-test.branch [
      | then-loop-count-test+else-is_ascii_digit w ↦ absurd (omega (arith, w.if-is_ascii_digit.ensures.cases, c.if-is_ascii_digit-2.ensures.cases))
      | else-loop-count-test w ↦ omega (arith, w.loop-count-test.false, c.min-most.ensures, c.if-count-bytes.true)
    ] in
    let end : l.count + 1 ≡ length (decimal n) = omega (arith, past, inside, length-decimal-le 20 n (omega arith) (omega (arith, few)) few) in
    let whole : longer ≡ n = reading_end n rest bytes few after is (l.count + 1) longer (reading_step n rest bytes few after is l.count l.number r inside) end in
    let told : c.in_ok-longer.longer ≡ longer = omega (arith, c.in_ok-longer.ensures, c.in_ok-checked_mul.ensures, c.from-digit.ensures) in
    rw (told ∙ whole) at c.number_before.ensures.number n rest few after is end

pub returns-clause-number : goal.returns-clause-number
returns-clause-number c n rest few after is =
    let l = c.loop-count in
    let bytes = c.args.bytes.now in
    let r = l.invariant.reads n rest few after is in
    let end : l.count ≡ length (decimal n) = last_inside n rest bytes few after is l.count l.number r (λ low digit. elim c.else-count-bytes.branch [
      | else-count-bytes-via-then-count-bytes+else-is_ascii_digit-2 w ↦ omega (arith, w.if-is_ascii_digit-2.ensures.cases, digit.0, digit.1)
      | else-count-bytes-via-else-count-bytes w ↦ omega (arith, w.if-count-bytes.false, low, digits_inside n rest bytes few after is)
    ]) in
    rw (reading_end n rest bytes few after is l.count l.number r end) at c.number_before-2.ensures.number n rest few after is end
