-- The references of an object, as the words in its fields.
use Rattle.std.proofs.Common.{◌≡◌, ℕ, suc, ◌+◌, ◌<◌, Bool, false, not, ◌&&◌, ◌||◌, List, [], ◌∷◌, length, get_or, take, drop, refl, sym, ◌∙◌, ap, arith}
use Rattle.std.proofs.lemmas.List.{get_or-take, get_or-drop}
use Rattle.std.specs.List.{list_any, range_with_len}
use Rattle.object_heap.specs.Layout.{reference_in}
use Rattle.object_heap.specs.HeapImage.{HeapImage, references_at, reference_at, is_unsound, leads_to, refers_to}
use Rattle.coded_marking.specs.Tracing.{leads_any}

-- a row of which each word is that in a field
row_is : (test : ℕ → Bool) (field : ℕ → ℕ) (row : List ℕ) (k : ℕ) → ((i : ℕ) → i < length row → get_or row i 0 ≡ field (k + i))
    → list_any test row ≡ list_any (λ f. test (field f)) (range_with_len k (length row))
row_is test field [] k are = refl
row_is test field (w ∷ row) k are =
    ap (λ x. test x || list_any test row) (are 0 (omega arith) ∙ ap field (at_zero k))
    ∙ ap (λ x. test (field k) || x) (row_is test field row (k + 1) (λ i l. are (suc i) (omega arith) ∙ ap field (past k i)))
  where
    at_zero : (k : ℕ) → k + 0 ≡ k
    at_zero k = omega arith

    past : (k i : ℕ) → k + suc i ≡ k + 1 + i
    past k i = omega arith

-- the targets of a sound object
pub refers_by_words : (image : HeapImage) (a : ℕ) (row : List ℕ) → is_unsound image a ≡ false → row ≡ take (references_at image a) (drop (a + 1) image.words) → length row ≡ references_at image a
    → (b : ℕ) → refers_to image a b ≡ leads_any image.layout row b
refers_by_words image a row sound is count b =
    ap (λ t. not t && list_any (λ f. leads_to (reference_at image a f) b) (range_with_len 0 (references_at image a))) sound
    ∙ ap (λ n. list_any (λ f. leads_to (reference_at image a f) b) (range_with_len 0 n)) (sym count)
    ∙ sym (row_is (λ w. leads_to (reference_in image.layout w) b) (λ f. get_or image.words (a + 1 + f) 0) row 0 (λ i l. word i l ∙ ap (λ j. get_or image.words (a + 1 + j) 0) (from_zero i)))
  where
    word : (i : ℕ) → i < length row → get_or row i 0 ≡ get_or image.words (a + 1 + i) 0
    word i l =
        ap (λ xs. get_or xs i 0) is
        ∙ get_or-take (references_at image a) (drop (a + 1) image.words) i 0 (omega (arith, l, count))
        ∙ get_or-drop (a + 1) image.words i 0

    from_zero : (i : ℕ) → i ≡ 0 + i
    from_zero i = omega arith
