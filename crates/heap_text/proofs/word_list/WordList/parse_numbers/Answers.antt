use Rattle.std.proofs.Common.{◌&&◌, refl, arith}
use Rattle.std.specs.Prelude.{◌==◌}
use Rattle.heap_text.proofs.Lemmas.PartSteps.{numbers_begin, numbers_missing, numbers_step, numbers_wrong, numbers_end}
use Rattle.heap_text.proofs.word_list.WordList.parse_numbers.Goals as goal

pub returns-in_default-clause-accepts : goal.returns-in_default-clause-accepts
returns-in_default-clause-accepts c ws fits some is room =
    numbers_missing c.args.tokens.rest.now c.next_number.new.self.rest.now c.next_number.result ws fits some is c.in_default.is c.next_number.ensures.number

pub loop-tokens-init : goal.loop-tokens-init
loop-tokens-init c = record {
  grown = c.in_ok-push_word.ensures.grown;
  numbers = λ ws fits some is room. numbers_begin c.args.self.now c.push_word.new.self c.args.tokens.rest.now c.next_number.new.self.rest.now c.in-Some.first c.args.len ws
      fits some is room c.in-Some.ensures.number (λ low. c.in_ok-push_word.ensures.pushed low);
}

pub loop-tokens-preserved : goal.loop-tokens-preserved
loop-tokens-preserved c = record {
  grown = omega (arith, c.loop-tokens.invariant.grown, c.in_ok-push_word-2.ensures.grown);
  numbers = λ ws fits some is room. numbers_step c.args.self.now c.loop-tokens.self c.push_word-in-loop-tokens.new.self c.loop-tokens.tokens.rest.now
      c.next_number-in-loop-tokens.new.self.rest.now c.in-Some.first c.in-Some-next_number.word c.args.len c.loop-tokens.are_equal
      (c.loop-tokens.are_equal && (c.in-Some-next_number.word == c.in-Some.first)) ws (c.loop-tokens.invariant.numbers ws fits some is room)
      (c.loop-tokens-test.ensures.some refl) c.in-Some-next_number.ensures.number room (λ low. c.in_ok-push_word-2.ensures.pushed low) refl;
}

pub returns-in_default-next_number-clause-accepts : goal.returns-in_default-next_number-clause-accepts
returns-in_default-next_number-clause-accepts c ws fits some is room =
    numbers_wrong c.args.self.now c.loop-tokens.self c.loop-tokens.tokens.rest.now c.next_number-in-loop-tokens.new.self.rest.now c.in-Some.first
    c.loop-tokens.are_equal ws c.next_number-in-loop-tokens.result (c.loop-tokens.invariant.numbers ws fits some is room)
    (c.loop-tokens-test.ensures.some refl) c.in_default-next_number.is c.next_number-in-loop-tokens.ensures.number

pub returns-clause-accepts : goal.returns-clause-accepts
returns-clause-accepts c ws fits some is room =
    numbers_end c.args.self.now c.loop-tokens.self c.loop-tokens.tokens.rest.now c.in-Some.first c.loop-tokens.are_equal ws
    (c.loop-tokens.invariant.numbers ws fits some is room) (c.loop-tokens-test.ensures.none refl)
