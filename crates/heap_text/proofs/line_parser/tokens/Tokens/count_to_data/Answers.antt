use Rattle.std.proofs.Common.{refl, arith, codes}
use Rattle.std.specs.Prelude.{option_map}
use Rattle.heap_text.proofs.Lemmas.PartSteps.{counting_step, counting_data, counting_end, named, not_named, some_none}
use Rattle.heap_text.proofs.line_parser.tokens.Tokens.count_to_data.Goals as goal

pub loop-token-init : goal.loop-token-init
loop-token-init c = record {
  few = omega arith;
  counting = λ len refs others few fits is. record { left = refs; fits = fits; remains = is; counted = omega arith };
}

pub loop-token-preserved : goal.loop-token-preserved
loop-token-preserved c = record {
  few = omega (arith, c.in-Some.ensures.less, c.loop-token.invariant.few);
  counting = λ len refs others few fits is.
      counting_step len c.loop-token.self.rest.now c.next_token.new.self.rest.now c.in-Some.token.now refs others c.loop-token.count few
      (c.loop-token.invariant.counting len refs others few fits is) (λ e. some_none _ (c.in-Some.ensures.none e).0) c.in-Some.ensures.some
      (λ e. not_named c.in-Some.token.now c.as_slice.result.now (codes "data") c.if-eq.ensures c.as_slice.ensures e);
}

pub returns-then-eq : goal.returns-then-eq
returns-then-eq c len refs others few fits is =
    counting_data len c.loop-token.self.rest.now c.next_token.new.self.rest.now c.in-Some.token.now refs others c.loop-token.count few
    (c.loop-token.invariant.counting len refs others few fits is) (λ e. some_none _ (c.in-Some.ensures.none e).0) c.in-Some.ensures.some
    (named c.in-Some.token.now c.as_slice.result.now (codes "data") c.if-eq.ensures c.as_slice.ensures)

pub returns : goal.returns
returns c len refs others few fits is =
    counting_end len c.loop-token.self.rest.now c.next_token.new.self.rest.now refs others c.loop-token.count (option_map (λ t. t.now) c.next_token.result) few
    (c.loop-token.invariant.counting len refs others few fits is) (rw c.in_default.is refl) c.next_token.ensures.some
