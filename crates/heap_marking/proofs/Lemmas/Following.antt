-- The references of one object, visited one after the other, and what is noted of them.
use Rattle.std.proofs.Common.{◌≡◌, ℕ, suc, ◌+◌, ◌-◌, ◌≤◌, ◌<◌, inl, inr, Bool, true, false, not, ◌&&◌, ◌||◌, List, [], ◌∷◌, ◌++◌, length, get_or, refl, sym, ◌∙◌, ap, subst, arith, eqb, leb, ltb, add-one}
use Rattle.std.proofs.lemmas.Bool.{true≢false, cases_Bool, ltb-true, ltb-false}
use Rattle.std.proofs.lemmas.List.Folds.{list_any-append}
use Rattle.std.specs.Prelude.{All}
use Rattle.std.specs.List.{list_any, range_with_len}
use Rattle.object_heap.specs.Header.{size_of, references_of, kind_of}
use Rattle.object_heap.specs.Layout.{Layout, Own, size_in, references_in, kind_in, reference_in}
use Rattle.object_heap.specs.HeapImage.{HeapImage, heap_words, references_at, reference_at, is_unsound, leads_to, refers_to}
use Rattle.heap_marking.specs.Marking.{IsGrown, IsWellFormed}
use Rattle.heap_marking.proofs.Lemmas.Numbers.{range_suc}
use Rattle.heap_marking.proofs.Lemmas.Growth.{grown_same, grown_more, grown_as}

module _ (image : HeapImage) (words a : ℕ) (are : words ≡ heap_words image) where
  pub unsound_is : (word : ℕ) (bad : Bool) → image.layout ≡ Own → word ≡ get_or image.words a 0
      → bad ≡ (not (eqb (kind_of word) 1) || eqb (size_of word) 0 || leb (size_of word) (references_of word) || ltb words (a + size_of word)) → is_unsound image a ≡ bad
  unsound_is word bad own is tested =
      ap (λ (y : Layout). not (eqb (kind_in y (get_or image.words a 0)) 1) || eqb (size_in y (get_or image.words a 0)) 0 || leb (size_in y (get_or image.words a 0)) (references_in y (get_or image.words a 0)) || ltb (heap_words image) (a + size_in y (get_or image.words a 0))) own
      ∙ ap (λ w. not (eqb (kind_of w) 1) || eqb (size_of w) 0 || leb (size_of w) (references_of w) || ltb (heap_words image) (a + size_of w)) (sym is)
      ∙ ap (λ n. not (eqb (kind_of word) 1) || eqb (size_of word) 0 || leb (size_of word) (references_of word) || ltb n (a + size_of word)) (sym are)
      ∙ sym tested

  -- an unsound object refers to nothing
  pub followed_none : (bits stack : List ℕ) → is_unsound image a ≡ true → IsGrown words (refers_to image a) bits bits stack stack
  followed_none bits stack bad = grown_same words (refers_to image a) bits stack (λ b l h. absurd (true≢false (sym h ∙ ap (λ t. not t && list_any (λ f. leads_to (reference_at image a f) b) (range_with_len 0 (references_at image a))) bad)))

  abbrev pub first_fields : ℕ → ℕ → Bool
  first_fields n b = list_any (λ f. leads_to (reference_at image a f) b) (range_with_len 0 n)

  first_more : (n b : ℕ) → first_fields (n + 1) b ≡ (first_fields n b || leads_to (reference_at image a n) b)
  first_more n b =
      ap (λ m. first_fields m b) (add-one n)
      ∙ ap (list_any (λ f. leads_to (reference_at image a f) b)) (range_suc 0 n ∙ ap (λ x. range_with_len 0 n ++ x ∷ []) (zero_plus n))
      ∙ list_any-append (λ f. leads_to (reference_at image a f) b) (range_with_len 0 n) (n ∷ [])
      ∙ ap (λ t. first_fields n b || t) (or_false (leads_to (reference_at image a n) b))
    where
      zero_plus : (k : ℕ) → 0 + k ≡ k
      zero_plus k = omega arith

      or_false : (t : Bool) → (t || false) ≡ t
      or_false true = refl
      or_false false = refl

  -- the references of a row are those of the object from the n-th on
  abbrev pub IsRow : ℕ → List ℕ → Type 0
  IsRow n row = (i : ℕ) → i < length row → get_or row i 0 ≡ reference_at image a (n + i)

  pub row_more : (n b : ℕ) (row : List ℕ) → IsRow n row → first_fields (n + length row) b ≡ (first_fields n b || list_any (λ w. leads_to w b) row)
  row_more n b [] are = ap (λ m. first_fields m b) (plus_zero n) ∙ sym (or_false (first_fields n b))
    where
      plus_zero : (k : ℕ) → k + 0 ≡ k
      plus_zero k = omega arith

      or_false : (t : Bool) → (t || false) ≡ t
      or_false true = refl
      or_false false = refl
  row_more n b (w ∷ row) are =
      let first : w ≡ reference_at image a n = are 0 (omega arith) ∙ ap (reference_at image a) (at_zero n) in
      ap (λ m. first_fields m b) (past n (length row))
      ∙ row_more (n + 1) b row (λ i l. are (suc i) (omega arith) ∙ ap (reference_at image a) (sym (past' n i)))
      ∙ ap (λ t. t || list_any (λ w. leads_to w b) row) (first_more n b ∙ ap (λ x. first_fields n b || leads_to x b) (sym first))
      ∙ or_assoc (first_fields n b) (leads_to w b) (list_any (λ w. leads_to w b) row)
    where
      at_zero : (k : ℕ) → k + 0 ≡ k
      at_zero k = omega arith

      past : (k m : ℕ) → k + suc m ≡ k + 1 + m
      past k m = omega arith

      past' : (k m : ℕ) → k + 1 + m ≡ k + suc m
      past' k m = omega arith

      or_assoc : (x y z : Bool) → ((x || y) || z) ≡ (x || (y || z))
      or_assoc true y z = refl
      or_assoc false y z = refl

  -- a row more
  followed_more : (n : ℕ) (row b0 b1 b2 s0 s1 s2 : List ℕ) → IsRow n row
      → IsGrown words (first_fields n) b0 b1 s0 s1 → IsGrown words (λ b. list_any (λ w. leads_to w b) row) b1 b2 s1 s2 → IsGrown words (first_fields (n + length row)) b0 b2 s0 s2
  followed_more n row b0 b1 b2 s0 s1 s2 are one two =
      grown_more words (first_fields n) (λ b. list_any (λ w. leads_to w b) row) (first_fields (n + length row)) b0 b1 b2 s0 s1 s2 (λ b. row_more n b row are) one two

  -- all fields of a sound object
  pub followed_all : (n : ℕ) (b0 b1 s0 s1 : List ℕ) → is_unsound image a ≡ false → n ≡ references_at image a → IsGrown words (first_fields n) b0 b1 s0 s1 → IsGrown words (refers_to image a) b0 b1 s0 s1
  followed_all n b0 b1 s0 s1 sound count grown =
      grown_as words (first_fields n) (refers_to image a) b0 b1 s0 s1 (λ b. ap (λ t. not t && first_fields (references_at image a) b) sound ∙ ap (λ m. first_fields m b) (sym count)) grown

  -- what is noted of the first fields, and of a row more
  abbrev pub AreNoted : Bool → Bool → ℕ → Type 0
  AreNoted initial now n = now ≡ true → (initial ≡ true) × ((f : ℕ) → f < n → reference_at image a f ≤ words)

  noted_more : (n : ℕ) (row : List ℕ) (initial old new : Bool) → IsRow n row → (new ≡ true → (old ≡ true) × All (λ w. w ≤ words) row) → AreNoted initial old n → AreNoted initial new (n + length row)
  noted_more n row initial old new are visited before said =
      let first = before (visited said).0 in (
        first.0,
        λ f l. elim (cases_Bool (ltb f n)) [
          | inl low ↦ first.1 f (ltb-true f n low)
          | inr other ↦
              let high : n ≤ f = ltb-false f n other in
              let i : ℕ = f - n in
              let inside : i < length row = omega (arith, l, high) in
              let same : n + i ≡ f = omega (arith, high) in
              subst (λ k. reference_at image a k ≤ words) same (subst (λ k. k ≤ words) (are i inside) ((visited said).1 i 0 inside))
        ],
      )

  pub noted_all : (n : ℕ) (initial now : Bool) → is_unsound image a ≡ false → n ≡ references_at image a → AreNoted initial now n → now ≡ true → (initial ≡ true) × IsWellFormed image a
  noted_all n initial now sound count noted said =
      let found = noted said in (
        found.0,
        record {
          sound = sound;
          inside = λ f l. let low = found.1 f (omega (arith, l, count)) in omega arith;
        },
      )

  -- a row that begins at an address after the header
  abbrev pub IsRowAt : ℕ → List ℕ → Type 0
  IsRowAt next row = (i : ℕ) → i < length row → get_or row i 0 ≡ get_or image.words (next + i) 0

  -- the number of references, by the header
  pub references_are : (word : ℕ) → image.layout ≡ Own → word ≡ get_or image.words a 0 → references_of word ≡ references_at image a
  references_are word own is = ap references_of is ∙ sym (ap (λ (y : Layout). references_in y (get_or image.words a 0)) own)

  pub row_at : image.layout ≡ Own → (next : ℕ) (row : List ℕ) → a + 1 ≤ next → IsRowAt next row → IsRow (next - (a + 1)) row
  row_at own next row low are i l = are i l ∙ ap (λ k. get_or image.words k 0) (same i) ∙ sym (ap (λ (y : Layout). reference_in y (get_or image.words (a + 1 + (next - (a + 1) + i)) 0)) own)
    where
      same : (i : ℕ) → next + i ≡ a + 1 + (next - (a + 1) + i)
      same i = omega (arith, low)

  pub behind_row : (next len : ℕ) → a + 1 ≤ next → next - (a + 1) + len ≡ next + len - (a + 1)
  behind_row next len low = omega (arith, low)

  pub followed_row : image.layout ≡ Own → (next : ℕ) (row b0 b1 b2 s0 s1 s2 : List ℕ) → a + 1 ≤ next → IsRowAt next row
      → IsGrown words (first_fields (next - (a + 1))) b0 b1 s0 s1 → IsGrown words (λ b. list_any (λ w. leads_to w b) row) b1 b2 s1 s2
      → IsGrown words (first_fields (next + length row - (a + 1))) b0 b2 s0 s2
  followed_row own next row b0 b1 b2 s0 s1 s2 low are one two =
      subst (λ n. IsGrown words (first_fields n) b0 b2 s0 s2) (behind_row next (length row) low) (followed_more (next - (a + 1)) row b0 b1 b2 s0 s1 s2 (row_at own next row low are) one two)

  pub noted_row : image.layout ≡ Own → (next : ℕ) (row : List ℕ) (initial old new : Bool) → a + 1 ≤ next → IsRowAt next row → (new ≡ true → (old ≡ true) × All (λ w. w ≤ words) row)
      → AreNoted initial old (next - (a + 1)) → AreNoted initial new (next + length row - (a + 1))
  noted_row own next row initial old new low are visited before =
      subst (AreNoted initial new) (behind_row next (length row) low) (noted_more (next - (a + 1)) row initial old new (row_at own next row low are) visited before)
