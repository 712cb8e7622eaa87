use Rattle.std.proofs.Common.{◌≡◌, ℕ, inl, inr, refl, sym, ap, ◌∙◌, subst, length, get_or, replicate, arith, codes, append-nil}
use Rattle.std.specs.Prelude.{option_map}
use Rattle.heap_text.specs.Words.{HasPushed, dead_part}
use Rattle.heap_text.proofs.Lemmas.PartSteps.{accepts_error, dead_after, dead_part_next, dead_part_none, first_fits, named, not_named, none_some, of_not_words, some_same}
use Rattle.std.proofs.lemmas.Result.{err_from_is_err_and}
use Rattle.heap_text.proofs.parsed_heap.ParsedHeap.parse_dead.Goals as goal

pub returns-in_default : goal.returns-in_default
returns-in_default c = record {
  accepts = λ ws fits some is room.
      absurd (none_some (length ws) (sym c.in_default.is ∙ (c.next_count.ensures.accepts (length ws) (dead_part ws) some (omega (arith, room, c.len.ensures))
      (omega (arith, room, c.requires.few)) (dead_after ws) is).0));
}

pub returns-in_default-next_token : goal.returns-in_default-next_token
returns-in_default-next_token c = record {
  accepts = λ ws fits some is room.
      let both = c.in-Some.ensures.accepts (length ws) (dead_part ws) some (omega (arith, room, c.len.ensures)) (omega (arith, room, c.requires.few)) (dead_after ws) is in
      absurd (dead_part_none ws c.next_count.new.self.rest.now c.next_token.new.self.rest.now (option_map (λ t. t.now) c.next_token.result) both.1
      (rw c.in_default-next_token.is refl) c.next_token.ensures.some);
}

pub returns-then-eq : goal.returns-then-eq
returns-then-eq c = record {
  accepts = λ ws fits some is room.
      let both = c.in-Some.ensures.accepts (length ws) (dead_part ws) some (omega (arith, room, c.len.ensures)) (omega (arith, room, c.requires.few)) (dead_after ws) is in
      let count : c.in-Some.count ≡ length ws = some_same c.in-Some.count (length ws) both.0 in
      elim (dead_part_next ws c.next_count.new.self.rest.now c.in-Some-next_token.name.now c.next_token.new.self.rest.now both.1 c.in-Some-next_token.ensures.some) [
        | inl b ↦
            let pushed : HasPushed c.args.self.now.words c.parse_equal_words.new.self (replicate c.in-Some.count (get_or ws 0 0)) =
            c.in_ok-parse_equal_words.ensures.accepts (get_or ws 0 0) (first_fits ws fits) b.rest_is (omega (arith, room, count)) in
            record {
              words = subst (HasPushed c.args.self.now.words c.parse_equal_words.new.self) (ap (λ (n : ℕ). replicate n (get_or ws 0 0)) count ∙ sym b.whole) pushed;
              live = sym (append-nil c.args.self.now.live.items);
              head = record { version = refl; region_log = refl; allowance = refl; roots = refl };
            }
        | inr b ↦ absurd (of_not_words (sym (named c.in-Some-next_token.name.now c.as_slice.result.now (codes "of") c.if-eq.ensures c.as_slice.ensures) ∙ b.name_is))
      ];
}

pub returns-then-eq-2 : goal.returns-then-eq-2
returns-then-eq-2 c = record {
  accepts = λ ws fits some is room.
      let both = c.in-Some.ensures.accepts (length ws) (dead_part ws) some (omega (arith, room, c.len.ensures)) (omega (arith, room, c.requires.few)) (dead_after ws) is in
      let count : c.in-Some.count ≡ length ws = some_same c.in-Some.count (length ws) both.0 in
      elim (dead_part_next ws c.next_count.new.self.rest.now c.in-Some-next_token.name.now c.next_token.new.self.rest.now both.1 c.in-Some-next_token.ensures.some) [
        | inl b ↦ absurd (not_named c.in-Some-next_token.name.now c.as_slice.result.now (codes "of") c.if-eq.ensures c.as_slice.ensures b.name_is)
        | inr b ↦
            record {
              words = c.in_ok-parse_unequal_words.ensures.accepts ws fits some b.unequal b.rest_is count (omega (arith, room));
              live = sym (append-nil c.args.self.now.live.items);
              head = record { version = refl; region_log = refl; allowance = refl; roots = refl };
            }
      ];
}

pub returns : goal.returns
returns c = record {
  accepts = λ ws fits some is room.
      let both = c.in-Some.ensures.accepts (length ws) (dead_part ws) some (omega (arith, room, c.len.ensures)) (omega (arith, room, c.requires.few)) (dead_after ws) is in
      elim (dead_part_next ws c.next_count.new.self.rest.now c.in-Some-next_token.name.now c.next_token.new.self.rest.now both.1 c.in-Some-next_token.ensures.some) [
        | inl b ↦ absurd (not_named c.in-Some-next_token.name.now c.as_slice.result.now (codes "of") c.if-eq.ensures c.as_slice.ensures b.name_is)
        | inr b ↦ absurd (not_named c.in-Some-next_token.name.now c.as_slice-2.result.now (codes "words") c.if-eq-2.ensures c.as_slice-2.ensures b.name_is)
      ];
}

pub returns-in_err-parse_equal_words : goal.returns-in_err-parse_equal_words
returns-in_err-parse_equal_words c = record {
  accepts = λ ws fits some is room.
      let both = c.in-Some.ensures.accepts (length ws) (dead_part ws) some (omega (arith, room, c.len.ensures)) (omega (arith, room, c.requires.few)) (dead_after ws) is in
      let count : c.in-Some.count ≡ length ws = some_same c.in-Some.count (length ws) both.0 in
      let p = err_from_is_err_and c.from_residual.result c.from_residual.ensures.1 in
      rw (p.1, p.2) (elim (dead_part_next ws c.next_count.new.self.rest.now c.in-Some-next_token.name.now c.next_token.new.self.rest.now both.1 c.in-Some-next_token.ensures.some) [
        | inl b ↦ accepts_error c.in_err-parse_equal_words.field-0.0 _ _ (c.in_err-parse_equal_words.ensures.accepts (get_or ws 0 0) (first_fits ws fits) b.rest_is (omega (arith, room, count)))
        | inr b ↦ absurd (of_not_words (sym (named c.in-Some-next_token.name.now c.as_slice.result.now (codes "of") c.if-eq.ensures c.as_slice.ensures) ∙ b.name_is))
      ]);
}

pub returns-in_err-parse_unequal_words : goal.returns-in_err-parse_unequal_words
returns-in_err-parse_unequal_words c = record {
  accepts = λ ws fits some is room.
      let both = c.in-Some.ensures.accepts (length ws) (dead_part ws) some (omega (arith, room, c.len.ensures)) (omega (arith, room, c.requires.few)) (dead_after ws) is in
      let count : c.in-Some.count ≡ length ws = some_same c.in-Some.count (length ws) both.0 in
      let p = err_from_is_err_and c.from_residual-in_err-parse_unequal_words.result c.from_residual-in_err-parse_unequal_words.ensures.1 in
      rw (p.1, p.2) (elim (dead_part_next ws c.next_count.new.self.rest.now c.in-Some-next_token.name.now c.next_token.new.self.rest.now both.1 c.in-Some-next_token.ensures.some) [
        | inl b ↦ absurd (not_named c.in-Some-next_token.name.now c.as_slice.result.now (codes "of") c.if-eq.ensures c.as_slice.ensures b.name_is)
        | inr b ↦ accepts_error c.in_err-parse_unequal_words.field-0.0 _ _ (c.in_err-parse_unequal_words.ensures.accepts ws fits some b.unequal b.rest_is count (omega (arith, room)))
      ]);
}
