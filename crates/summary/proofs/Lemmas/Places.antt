-- Places in the live list, and heaps in which no word is known to be a reference.
use Rattle.std.proofs.Common.{◌≡◌, ℕ, zero, suc, ◌+◌, ◌<◌, inl, inr, Bool, true, false, not, ◌&&◌, List, [], ◌∷◌, length, get_or, refl, sym, ◌∙◌, ap, arith, ltb, leb, eqb, Option, Some, None}
use Rattle.std.proofs.lemmas.Bool.{cases_lt, and_left, and_right, lt-leb, le-ltb, lt-ltb, cond-true, cond-false, eq-eqb, ne_eqb}
use Rattle.std.proofs.lemmas.List.Elements.{All-from_get_or}
use Rattle.std.proofs.lemmas.List.Folds.{list_any_none}
use Rattle.std.specs.List.{list_any, prefix_len}
use Rattle.object_heap.specs.HeapImage.{HeapImage, HasLiveList, word_at, references_at}
use Rattle.summary.specs.LiveObjects.{object_count, object_at}
use Rattle.summary.specs.NewAddresses.{new_address, new_live, new_top}
use Rattle.summary.specs.WordMoves.{origin}
use Rattle.summary.specs.Compaction.{compact, compacted_word, moved_word, written, carried, redirected_word, is_reference_of, is_deferred}
use Rattle.summary.specs.Updates.{is_late_reference}
use Rattle.summary.proofs.Lemmas.Graph.{new-different}
use Rattle.summary.proofs.Lemmas.Valid.{new_at, count_same}

first_place : (xs : List ℕ) (a i : ℕ) → i < length xs → get_or xs i 0 ≡ a → ((k : ℕ) → k < i → get_or xs k 0 ≡ a → ⊥) → prefix_len (λ b. not (eqb b a)) xs ≡ i
first_place [] a i l e h = let no : ⊥ = omega arith in absurd no
first_place (x ∷ xs) a zero l e h = rw (eq-eqb x a e) refl
first_place (x ∷ xs) a (suc i) l e h = rw (ne_eqb x a (h 0 (omega arith))) (let rest = first_place xs a i (omega arith) e (λ k m. h (suc k) (omega arith)) in omega arith)

-- an object keeps its place in the live list
pub place-kept : (image : HeapImage) → HasLiveList image → (i : ℕ) → i < object_count image
    → prefix_len (λ b. not (eqb b (new_address image (object_at image i)))) (new_live image) ≡ prefix_len (λ b. not (eqb b (object_at image i))) image.live
place-kept image sound i l =
    let count = count_same image sound in
    let new : prefix_len (λ b. not (eqb b (new_address image (object_at image i)))) (new_live image) ≡ i = first_place (new_live image) (new_address image (object_at image i)) i (omega arith) (new_at image sound i 0 l) (λ k m e.
    let inside : k < object_count image = omega arith in
    let same : k ≡ i = new-different image sound k i inside l (sym (new_at image sound k 0 inside) ∙ e) in
    omega arith) in
    let old : prefix_len (λ b. not (eqb b (object_at image i))) image.live ≡ i = first_place image.live (object_at image i) i l refl (λ k m e.
    let inside : k < object_count image = omega arith in
    let same : k ≡ i = new-different image sound k i inside l (ap (new_address image) e) in
    omega arith) in
    new ∙ sym old

-- where no object has references, words are carried as they are
module _ (image : HeapImage) (none : (a : ℕ) → references_at image a ≡ 0) where
  no_reference : (a q : ℕ) → is_reference_of image a q ≡ false
  no_reference a q = elim (cases_lt a q) [
    | inl less ↦ let zero_at = none a in and_right (ltb a q) (leb q (a + references_at image a)) (lt-leb q (a + references_at image a) (omega arith))
    | inr more ↦ and_left (ltb a q) (leb q (a + references_at image a)) (le-ltb a q more)
  ]

  carried-same : (test : ℕ → Bool) (q : ℕ) → carried image test q ≡ word_at image q
  carried-same test q = cond-false (list_any (λ a. is_reference_of image a q && test a) image.live) (redirected_word image (word_at image q)) (word_at image q)
      (list_any_none (λ a. is_reference_of image a q && test a) image.live (All-from_get_or (λ a. (is_reference_of image a q && test a) ≡ false) image.live 0 (λ k m.
      and_left (is_reference_of image (get_or image.live k 0) q) (test (get_or image.live k 0)) (no_reference (get_or image.live k 0) q))))

  pub moved-unchanged : (p q : ℕ) → p < new_top image → origin image p ≡ Some q → moved_word image p ≡ word_at image q
  moved-unchanged p q below from =
      cond-true (ltb p (new_top image)) (written image (λ a. not (is_deferred image a)) (origin image p) p) (word_at image p) (lt-ltb p (new_top image) below)
      ∙ ap (λ o. written image (λ a. not (is_deferred image a)) o p) from
      ∙ carried-same (λ a. not (is_deferred image a)) q

  pub compacted-unchanged : (p q : ℕ) → p < new_top image → origin image p ≡ Some q → compacted_word image p ≡ word_at image q
  compacted-unchanged p q below from =
      cond-true (ltb p (new_top image)) (written image (λ _. true) (origin image p) p) 0 (lt-ltb p (new_top image) below)
      ∙ ap (λ o. written image (λ _. true) o p) from
      ∙ carried-same (λ _. true) q
