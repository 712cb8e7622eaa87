-- The live object that has a word.
use Rattle.std.proofs.Common.{◌≡◌, ℕ, ◌+◌, ◌≤◌, ◌<◌, inl, inr, List, Option, None, Some, true, false, eqb, leb, ltb, length, get_or, refl, sym, ◌∙◌, ap, subst, arith}
use Rattle.std.proofs.lemmas.Bool.{cases_order, and_parts, leb-true, ltb-true, eqb-true, eq-eqb, true≢false}
use Rattle.std.proofs.lemmas.List.Folds.{list_any_at}
use Rattle.object_heap.specs.HeapImage.{HeapImage, IsValid, end_of, size_at, is_word_of, is_live_word}
use Rattle.std.specs.Prelude.{MatchOption}
use Rattle.object_heap.specs.Bits.{has, NoneBelow, IsLastBelow}
use Rattle.mark_bitmap.specs.Marks.{is_begin, IsObjectOver}
use Rattle.mark_bitmap.proofs.Lemmas.Apart.{sound_at, apart, place_of}

module _ (image : HeapImage) (valid : IsValid image) where
  listed-begins : (i : ℕ) → i < length image.live → is_begin image (get_or image.live i 0) ≡ true
  listed-begins i h = list_any_at (λ b. eqb b (get_or image.live i 0)) image.live i 0 h (eq-eqb (get_or image.live i 0) (get_or image.live i 0) refl)

  -- a word of an object isn't before all begins
  pub no-begin_below : (a : ℕ) → is_live_word image a ≡ true → NoneBelow (is_begin image) (a + 1) → ⊥
  no-begin_below a live none =
      let here = place_of image valid (λ b. is_word_of image b a) live in
      let from : get_or image.live here.0 0 ≤ a = leb-true (get_or image.live here.0 0) a (and_parts (leb (get_or image.live here.0 0) a) (ltb a (end_of image (get_or image.live here.0 0))) here.2).0 in
      true≢false (sym (listed-begins here.0 here.1) ∙ none (get_or image.live here.0 0) (omega arith))

  -- the last object that begins up to a word of an object has it
  pub last-over : (a b : ℕ) → is_live_word image a ≡ true → IsLastBelow (is_begin image) (a + 1) b → IsObjectOver image a b
  last-over a b live last = record {
    begins = last.passes;
    has_word = subst (λ n. is_word_of image n a ≡ true) same here.2;
  }
    where
      here : (i : ℕ) × (i < length image.live) × (is_word_of image (get_or image.live i 0) a ≡ true)
      here = place_of image valid (λ c. is_word_of image c a) live

      there : (j : ℕ) × (j < length image.live) × (eqb (get_or image.live j 0) b ≡ true)
      there = place_of image valid (λ c. eqb c b) last.passes

      is : get_or image.live there.0 0 ≡ b
      is = eqb-true (get_or image.live there.0 0) b there.2

      same : get_or image.live here.0 0 ≡ b
      same =
          let c : ℕ = get_or image.live here.0 0 in
          let parts = and_parts (leb c a) (ltb a (end_of image c)) here.2 in
          let from : c ≤ a = leb-true c a parts.0 in
          let to : a < end_of image c = ltb-true a (end_of image c) parts.1 in
          let below : b < a + 1 = last.below in
          let b-is : get_or image.live there.0 0 ≡ b = is in
          elim (cases_order here.0 there.0) [
            | inl e ↦ ap (λ n. get_or image.live n 0) e ∙ is
            | inr (inl before) ↦
                let e : end_of image c ≤ get_or image.live there.0 0 = apart image valid here.0 there.0 before there.1 in
                let no : ⊥ = omega arith in absurd no
            | inr (inr behind) ↦
                let e : end_of image (get_or image.live there.0 0) ≤ c = apart image valid there.0 here.0 behind here.1 in
                let some : 0 < size_at image (get_or image.live there.0 0) = (sound_at image valid there.0 there.1).header in
                absurd (true≢false (sym (listed-begins here.0 here.1) ∙ last.greatest c (omega arith) (omega arith)))
          ]

  -- by the bits of the begins
  pub object_over-is : (begins : List ℕ) → ((k : ℕ) → has begins k ≡ is_begin image k) → (a : ℕ) → is_live_word image a ≡ true → (found : Option ℕ) → MatchOption found (NoneBelow (has begins) (a + 1)) (IsLastBelow (has begins) (a + 1)) → MatchOption found (is_live_word image a ≡ false) (IsObjectOver image a)
  object_over-is begins bits a live None none = absurd (no-begin_below a live (λ k l. sym (bits k) ∙ none k l))
  object_over-is begins bits a live (Some b) last = last-over a b live (record {
    below = last.below;
    passes = sym (bits b) ∙ last.passes;
    greatest = λ k f l. sym (bits k) ∙ last.greatest k f l;
  })
