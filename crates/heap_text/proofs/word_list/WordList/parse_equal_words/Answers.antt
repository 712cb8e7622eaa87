use Rattle.std.proofs.Common.{◌≡◌, ◌∙◌, ℕ, [], Some, sym, subst, true, replicate, append-nil, arith, is_some}
use Rattle.heap_text.specs.Words.{HasPushed}
use Rattle.heap_text.specs.Text.{number_text}
use Rattle.heap_text.proofs.Lemmas.PartSteps.{none_some, some_same, true_not_false}
use Rattle.heap_text.proofs.word_list.WordList.parse_equal_words.Goals as goal

pub returns-in_default : goal.returns-in_default
returns-in_default c = record {
  accepts = λ w few is room. absurd (none_some w (sym c.in_default.is ∙ (c.next_number.ensures.number w [] few tt (is ∙ sym (append-nil (number_text w)))).0));
}

pub returns-then-is_some : goal.returns-then-is_some
returns-then-is_some c = record {
  accepts = λ w few is room.
      let e = (c.in-Some.ensures.number w [] few tt (is ∙ sym (append-nil (number_text w)))).1 in
      let none = (c.next_token.ensures.none e).0 in
      let no : true ≡ is_some c.next_token.result = c.if-is_some.ensures in
      absurd (true_not_false (rw none at no));
}

pub returns : goal.returns
returns c = record {
  accepts = λ w few is room.
      let found : Some c.in-Some.word ≡ Some w = (c.in-Some.ensures.number w [] few tt (is ∙ sym (append-nil (number_text w)))).0 in
      let same : c.in-Some.word ≡ w = some_same c.in-Some.word w found in
      let all : c.loop-i._i ≡ c.args.count = omega (arith, c.loop-i-test.false, c.loop-i.auto._i-end) in
      subst (λ (n : ℕ). HasPushed c.args.self.now c.loop-i.self (replicate n w)) all
      (subst (λ (x : ℕ). HasPushed c.args.self.now c.loop-i.self (replicate c.loop-i._i x)) same (c.loop-i.invariant room));
}
