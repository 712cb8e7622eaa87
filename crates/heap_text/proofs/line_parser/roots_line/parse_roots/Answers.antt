use Rattle.std.proofs.Common.{ℕ, List, refl, ap, length, arith}
use Rattle.std.specs.Prelude.{option_map}
use Rattle.heap_text.proofs.Lemmas.PartSteps.{roots_begin, roots_step, roots_wrong, roots_end, some_none}
use Rattle.heap_text.proofs.line_parser.roots_line.parse_roots.Goals as goal

pub loop-token-init : goal.loop-token-init
loop-token-init c = λ all fits few empty is. roots_begin c.args.len c.args.roots.now.items c.args.tokens.rest.now all fits empty is

pub returns-in_default-parse_reference : goal.returns-in_default-parse_reference
returns-in_default-parse_reference c = record {
  accepts = λ all fits few empty is.
      roots_wrong c.args.len c.loop-token.roots.items c.loop-token.tokens.rest.now c.next_token.new.self.rest.now c.in-Some.token.now all c.parse_reference.result
      c.requires.few (c.loop-token.invariant all fits few empty is) (λ e. some_none _ (c.in-Some.ensures.none e).0) c.in-Some.ensures.some
      c.in_default-parse_reference.is c.parse_reference.ensures.reference;
}

pub loop-token-preserved : goal.loop-token-preserved
loop-token-preserved c = λ all fits few empty is.
    roots_step c.args.len c.loop-token.roots.items c.push_root.new.roots.items c.loop-token.tokens.rest.now c.next_token.new.self.rest.now c.in-Some.token.now all
    c.in-Some-parse_reference.root c.requires.few (c.loop-token.invariant all fits few empty is) (λ e. some_none _ (c.in-Some.ensures.none e).0) c.in-Some.ensures.some
    c.in-Some-parse_reference.ensures.reference few c.in_ok-push_root.ensures

pub returns : goal.returns
returns c = record {
  accepts = λ all fits few empty is.
      roots_end c.args.len c.loop-token.roots.items c.loop-token.tokens.rest.now c.next_token.new.self.rest.now all (option_map (λ t. t.now) c.next_token.result) c.requires.few
      (c.loop-token.invariant all fits few empty is) (rw c.in_default.is refl) c.next_token.ensures.some;
}

pub returns-then-len : goal.returns-then-len
returns-then-len c = record {
  accepts = λ all fits few empty is.
      let whole = roots_end c.args.len c.loop-token.roots.items c.loop-token.tokens.rest.now c.next_token.new.self.rest.now all (option_map (λ t. t.now) c.next_token.result) c.requires.few
      (c.loop-token.invariant all fits few empty is) (rw c.in_default.is refl) c.next_token.ensures.some in
      absurd (omega (arith, few, ap (λ (xs : List ℕ). length xs) whole, c.if-len.true, c.len.ensures, c.loop-token.roots.ok.0));
}
