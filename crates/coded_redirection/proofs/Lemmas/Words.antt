-- Whether one word is live, by its count.
use Rattle.std.proofs.Common.{◌≡◌, ◌∙◌, ℕ, ◌+◌, ◌-◌, Bool, true, false, cond, zero-add, ap, arith}
use Rattle.std.proofs.lemmas.Bool.{true_from_ne_false, cond-false}
use Rattle.std.specs.Prelude.{count_by}
use Rattle.std.specs.List.{range_with_len}
use Rattle.object_heap.specs.HeapImage.{HeapImage, is_live_word, live_words}

module _ (image : HeapImage) (q : ℕ) where
  counted : (n : ℕ) → n ≡ 1 → count_by (is_live_word image) (range_with_len q n) ≡ cond (is_live_word image q) 1 0
  counted n e = ap (λ k. count_by (is_live_word image) (range_with_len q k)) e ∙ zero-add (cond (is_live_word image q) 1 0)

  abbrev one : live_words image q (q + 1) ≡ cond (is_live_word image q) 1 0
  one = counted (q + 1 - q) (omega arith)

  pub live_one : (live_words image q (q + 1) ≡ 0 → ⊥) → is_live_word image q ≡ true
  live_one some = true_from_ne_false (is_live_word image q) (λ dead. some (one ∙ cond-false (is_live_word image q) 1 0 dead))
