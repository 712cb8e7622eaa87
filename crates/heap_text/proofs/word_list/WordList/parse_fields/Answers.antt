use Rattle.std.proofs.Common.{◌++◌, inl, inr, ℕ, List, refl, sym, ◌∙◌, subst, arith, codes}
use Rattle.std.specs.Prelude.{option_map}
use Rattle.heap_text.specs.Words.{Accepts, HasPushed}
use Rattle.heap_text.proofs.Lemmas.PartSteps.{fields_next, fields_none, pushed_none, named, not_named, refs_not_data, some_none}
use Rattle.heap_text.proofs.word_list.WordList.parse_fields.Goals as goal

pub returns-in_default : goal.returns-in_default
returns-in_default c = record {
  accepts = λ refs others fits fits' is room.
      subst (λ (xs : List ℕ). HasPushed c.args.self.now c.args.self.now xs)
      (sym (fields_none refs others c.args.tokens.rest.now c.next_token.new.self.rest.now (option_map (λ t. t.now) c.next_token.result) is
      (rw c.in_default.is refl) c.next_token.ensures.some))
      (pushed_none c.args.self.now);
}

pub returns-then-eq : goal.returns-then-eq
returns-then-eq c = record {
  accepts = λ refs others fits fits' is room.
      elim (fields_next refs others c.args.tokens.rest.now c.in-Some.name.now c.next_token.new.self.rest.now is
      (λ e. some_none _ (c.in-Some.ensures.none e).0) c.in-Some.ensures.some) [
        | inl b ↦ c.parse_references_and_data.ensures.accepts refs others fits fits' b.some b.rest_is room
        | inr b ↦ absurd (refs_not_data (sym (named c.in-Some.name.now c.as_slice.result.now (codes "refs") c.if-eq.ensures c.as_slice.ensures) ∙ b.name_is))
      ];
}

pub returns-then-eq-2 : goal.returns-then-eq-2
returns-then-eq-2 c = record {
  accepts = λ refs others fits fits' is room.
      elim (fields_next refs others c.args.tokens.rest.now c.in-Some.name.now c.next_token.new.self.rest.now is
      (λ e. some_none _ (c.in-Some.ensures.none e).0) c.in-Some.ensures.some) [
        | inl b ↦ absurd (not_named c.in-Some.name.now c.as_slice.result.now (codes "refs") c.if-eq.ensures c.as_slice.ensures b.name_is)
        | inr b ↦
            subst (λ (xs : List ℕ). Accepts c.parse_data.result (λ _. HasPushed c.args.self.now c.parse_data.new.self (xs ++ others))) (sym b.none)
            (c.parse_data.ensures.accepts others fits' b.some b.rest_is (omega (arith, room)))
      ];
}

pub returns : goal.returns
returns c = record {
  accepts = λ refs others fits fits' is room.
      elim (fields_next refs others c.args.tokens.rest.now c.in-Some.name.now c.next_token.new.self.rest.now is
      (λ e. some_none _ (c.in-Some.ensures.none e).0) c.in-Some.ensures.some) [
        | inl b ↦ absurd (not_named c.in-Some.name.now c.as_slice.result.now (codes "refs") c.if-eq.ensures c.as_slice.ensures b.name_is)
        | inr b ↦ absurd (not_named c.in-Some.name.now c.as_slice-2.result.now (codes "data") c.if-eq-2.ensures c.as_slice-2.ensures b.name_is)
      ];
}
