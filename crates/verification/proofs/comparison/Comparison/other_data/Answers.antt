use Rattle.std.proofs.Common.{◌≡◌, ℕ, ◌+◌, ◌-◌, ◌<◌, refl, sym, ap, subst, arith}
use Rattle.std.specs.Prelude.{Option, MatchOption}
use Rattle.object_heap.specs.HeapImage.{HeapImage, word_at, size_at, references_at}
use Rattle.verification.specs.Difference.{AreAlike, IsLeastDifference}
use Rattle.verification.specs.Compared.{AreCompacted, IsFirstOther, IsPlaced}
use Rattle.verification.proofs.Lemmas.Joined.{alike_words, first_of_words}
use Rattle.verification.proofs.Lemmas.Placing.{data_words}
use Rattle.verification.proofs.comparison.Comparison.other_data.Goals as goal

module _ (before after : HeapImage) (a place done words left : ℕ) (placed : IsPlaced before a place) (is : done ≡ 1 + references_at before a) (size : words ≡ size_at before a) (rest : left ≡ words - done) where
  end_is : (w r : ℕ) → words ≡ w → done ≡ 1 + r → r < w → place + w ≡ place + done + left
  end_is w r e f l = omega (arith, e, f, l, rest)

  from_is : (r : ℕ) → done ≡ 1 + r → place + done ≡ place + 1 + r
  from_is r e = omega (arith, e)

  start : place + done ≡ place + 1 + references_at before a
  start = from_is (references_at before a) is

  end : place + size_at before a ≡ place + done + left
  end = end_is (size_at before a) (references_at before a) size is placed.sound.references

  left_is : left ≡ size_at before a - done
  left_is = subst (λ w. left ≡ w - done) size rest

  alike : AreAlike (λ j. word_at before (a + done + j)) (λ j. word_at after (place + done + j)) left
      → AreCompacted before after (place + 1 + references_at before a) (place + size_at before a)
  alike h = subst (λ s. AreCompacted before after s (place + size_at before a)) start
      (alike_words before after (λ j. word_at before (a + done + j)) (place + done) left (place + size_at before a) end (data_words before a place placed done left is left_is) h)

  first : (j : ℕ) → IsLeastDifference (λ j. word_at before (a + done + j)) (λ j. word_at after (place + done + j)) left j
      → IsFirstOther before after (place + 1 + references_at before a) (place + size_at before a) (place + done + j)
  first j h = subst (λ s. IsFirstOther before after s (place + size_at before a) (place + done + j)) start
      (first_of_words before after (λ j. word_at before (a + done + j)) (place + done) left (place + size_at before a) j (place + done + j) end refl (data_words before a place placed done left is left_is) h)

pub returns-in_err-j : goal.returns-in_err-j
returns-in_err-j c =
    let before : HeapImage = c.args.self.now.before.now in
    let after : HeapImage = c.args.self.now.after.now in
    let a : ℕ = c.args.a in
    let place : ℕ = c.args.place in
    let done : ℕ = 1 + c.references_at-done.result in
    subst (λ (r : Option ℕ). MatchOption r (AreCompacted before after (place + 1 + references_at before a) (place + size_at before a)) (IsFirstOther before after (place + 1 + references_at before a) (place + size_at before a))) (sym c.from_residual.ensures)
    (alike before after a place done c.size_at.result (c.size_at.result - done) c.requires (ap (λ n. 1 + n) c.references_at-done.ensures.value) c.size_at.ensures.value refl c.in_err-j.ensures)

pub returns : goal.returns
returns c =
    let before : HeapImage = c.args.self.now.before.now in
    let after : HeapImage = c.args.self.now.after.now in
    let done : ℕ = 1 + c.references_at-done.result in
    first before after c.args.a c.args.place done c.size_at.result (c.size_at.result - done) c.requires (ap (λ n. 1 + n) c.references_at-done.ensures.value) c.size_at.ensures.value refl c.in_ok-j.j c.in_ok-j.ensures
