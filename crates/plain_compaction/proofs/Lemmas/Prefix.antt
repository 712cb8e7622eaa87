-- The steps of the search for the prefix end.
use Rattle.std.proofs.Common.{◌≡◌, ℕ, zero, suc, ◌+◌, ◌*◌, ◌≤◌, ◌<◌, inl, inr, Bool, true, false, sym, ◌∙◌, ap, arith}
use Rattle.std.proofs.lemmas.Bool.{cases_Bool, cond-true, cond-false, le-leb, lt-leb}
use Rattle.std.specs.Prelude.{count_by}
use Rattle.std.specs.List.{range_with_len}
use Rattle.object_heap.specs.HeapImage.{HeapImage, region_words, is_dead_word}
use Rattle.summary.specs.NewAddresses.{greatest, dead_words_below, is_allowed}
use Rattle.plain_compaction.proofs.Lemmas.Counts.{count_by-parts}

pub greatest-le : (test : ℕ → Bool) (n : ℕ) → greatest test n ≤ n
greatest-le test zero = omega arith
greatest-le test (suc n) = elim (cases_Bool (test (suc n))) [
  | inl e ↦ let h = cond-true (test (suc n)) (suc n) (greatest test n) e in omega arith
  | inr e ↦ let h = cond-false (test (suc n)) (suc n) (greatest test n) e in let k = greatest-le test n in omega arith
]

module _ (image : HeapImage) where
  abbrev R : ℕ
  R = region_words image

  pub dead-step : (r : ℕ) → dead_words_below image ((r + 1) * R) ≡ dead_words_below image (r * R) + count_by (is_dead_word image) (range_with_len (r * R) R)
  dead-step r =
      let e : (r + 1) * R ≡ r * R + R = omega arith in
      let z : 0 + r * R ≡ r * R = omega arith in
      ap (λ n. count_by (is_dead_word image) (range_with_len 0 n)) e
      ∙ count_by-parts (is_dead_word image) 0 (r * R) R
      ∙ ap (λ b. count_by (is_dead_word image) (range_with_len 0 (r * R)) + count_by (is_dead_word image) (range_with_len b R)) z

  pub prefix-allowed : (r d : ℕ) → d ≡ dead_words_below image ((r + 1) * R) → d ≤ image.allowance → r + 1 ≡ greatest (is_allowed image) (r + 1)
  prefix-allowed r d e few =
      let s : r + 1 ≡ suc r = omega arith in
      let test : is_allowed image (suc r) ≡ true = ap (is_allowed image) (sym s) ∙ le-leb (dead_words_below image ((r + 1) * R)) image.allowance (omega arith) in
      s ∙ sym (cond-true (is_allowed image (suc r)) (suc r) (greatest (is_allowed image) r) test) ∙ ap (greatest (is_allowed image)) (sym s)

  pub prefix-refused : (r d : ℕ) → d ≡ dead_words_below image ((r + 1) * R) → image.allowance < d → greatest (is_allowed image) r ≡ greatest (is_allowed image) (r + 1)
  prefix-refused r d e many =
      let s : r + 1 ≡ suc r = omega arith in
      let test : is_allowed image (suc r) ≡ false = ap (is_allowed image) (sym s) ∙ lt-leb (dead_words_below image ((r + 1) * R)) image.allowance (omega arith) in
      sym (cond-false (is_allowed image (suc r)) (suc r) (greatest (is_allowed image) r) test) ∙ ap (greatest (is_allowed image)) (sym s)
