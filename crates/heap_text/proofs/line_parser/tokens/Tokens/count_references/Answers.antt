use Rattle.std.proofs.Common.{◌≡◌, ◌++◌, inl, inr, ℕ, List, refl, sym, ap, ◌∙◌, length, length-append, arith, codes}
use Rattle.std.specs.Prelude.{option_map}
use Rattle.heap_text.proofs.Lemmas.PartSteps.{fields_next, fields_none, named, not_named, refs_not_data, some_none}
use Rattle.heap_text.proofs.line_parser.tokens.Tokens.count_references.Goals as goal

pub returns-in_default : goal.returns-in_default
returns-in_default c len refs others few fits is =
    let none = fields_none refs others c.args.self.now.rest.now c.next_token.new.self.rest.now (option_map (λ t. t.now) c.next_token.result) is
    (rw c.in_default.is refl) c.next_token.ensures.some in
    let empty : length (refs ++ others) ≡ 0 = ap (λ (xs : List ℕ). length xs) none in
    omega (arith, empty, length-append refs others)

pub returns-then-eq : goal.returns-then-eq
returns-then-eq c len refs others few fits is =
    elim (fields_next refs others c.args.self.now.rest.now c.in-Some.name.now c.next_token.new.self.rest.now is
    (λ e. some_none _ (c.in-Some.ensures.none e).0) c.in-Some.ensures.some) [
      | inl b ↦ c.count_to_data.ensures len refs others few fits b.rest_is
      | inr b ↦ absurd (refs_not_data (sym (named c.in-Some.name.now c.as_slice.result.now (codes "refs") c.if-eq.ensures c.as_slice.ensures) ∙ b.name_is))
    ]

pub returns : goal.returns
returns c len refs others few fits is =
    elim (fields_next refs others c.args.self.now.rest.now c.in-Some.name.now c.next_token.new.self.rest.now is
    (λ e. some_none _ (c.in-Some.ensures.none e).0) c.in-Some.ensures.some) [
      | inl b ↦ absurd (not_named c.in-Some.name.now c.as_slice.result.now (codes "refs") c.if-eq.ensures c.as_slice.ensures b.name_is)
      | inr b ↦ sym (ap (λ (xs : List ℕ). length xs) b.none)
    ]
