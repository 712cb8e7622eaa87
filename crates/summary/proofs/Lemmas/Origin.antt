-- The old address of the word that goes to a new one.
use Rattle.std.proofs.Common.{◌≡◌, ℕ, zero, suc, ◌+◌, ◌-◌, ◌≤◌, ◌<◌, inl, inr, Bool, true, cond, ◌&&◌, List, [], ◌∷◌, refl, sym, ◌∙◌, ap, subst, arith, ltb, eqb, zero-add}
use Rattle.std.proofs.lemmas.Bool.{cases_Bool, cases_lt, cases_order, cond-true, cond-false, and_parts, and_from, lt-ltb, le-ltb, eqb-true, eq-eqb}
use Rattle.std.proofs.lemmas.List.Sums.{sum_by-append}
use Rattle.std.proofs.lemmas.List.FromFn.{get_or-map-range_with_len, length-map-range_with_len}
use Rattle.std.specs.Prelude.{filter, map, find, Some, option_map, count_by, unwrap_or}
use Rattle.std.specs.List.{range_with_len}
use Rattle.object_heap.specs.HeapImage.{HeapImage, HasLiveList, heap_words, word_at, is_live_word, live_words}
use Rattle.summary.proofs.Lemmas.Spans.{count_by-cons}
use Rattle.summary.specs.NewAddresses.{prefix_end, new_top}
use Rattle.summary.specs.WordMoves.{slid, origin}
use Rattle.summary.specs.Compaction.{compact, compacted_word, moved, moved_word, written, carried}
use Rattle.summary.proofs.Lemmas.Addresses.{range_with_len-add}
use Rattle.summary.proofs.Lemmas.Moves.{word_moves-live}

find-map : {X : Type 0} (h : ℕ → ℕ × X) (t : X → Bool) (xs : List ℕ) → ((q : ℕ) → (h q).0 ≡ q) → option_map (λ m. m.0) (find (λ m. t m.1) (map h xs)) ≡ find (λ q. t (h q).1) xs
find-map h t [] e = refl
find-map {X} h t (x ∷ xs) e = elim (cases_Bool (t (h x).1)) [
  | inl passes ↦ ap (option_map (λ (m : ℕ × X). m.0)) (cond-true (t (h x).1) (Some (h x)) (find (λ m. t m.1) (map h xs)) passes) ∙ ap Some (e x) ∙ sym (cond-true (t (h x).1) (Some x) (find (λ q. t (h q).1) xs) passes)
  | inr fails ↦ ap (option_map (λ (m : ℕ × X). m.0)) (cond-false (t (h x).1) (Some (h x)) (find (λ m. t m.1) (map h xs)) fails) ∙ find-map h t xs e ∙ sym (cond-false (t (h x).1) (Some x) (find (λ q. t (h q).1) xs) fails)
]

find-filter : (p t : ℕ → Bool) (xs : List ℕ) → find t (filter p xs) ≡ find (λ q. p q && t q) xs
find-filter p t [] = refl
find-filter p t (x ∷ xs) = elim (cases_Bool (p x)) [
  | inl passes ↦ rw passes (ap (λ o. cond (t x) (Some x) o) (find-filter p t xs))
  | inr fails ↦ rw fails (find-filter p t xs)
]

pub find-passes : (t : ℕ → Bool) (xs : List ℕ) (x : ℕ) → find t xs ≡ Some x → t x ≡ true
find-passes t [] x e = cc
find-passes t (y ∷ xs) x e = elim (cases_Bool (t y)) [
  | inl passes ↦ let same : y ≡ x = ap (λ o. unwrap_or o 0) (sym (cond-true (t y) (Some y) (find t xs) passes) ∙ e) in subst (λ z. t z ≡ true) same passes
  | inr fails ↦ find-passes t xs x (sym (cond-false (t y) (Some y) (find t xs) fails) ∙ e)
]

-- the first address of a range that passes, if no earlier one does
find-range : (t : ℕ → Bool) (b n q : ℕ) → b ≤ q → q < b + n → t q ≡ true → ((k : ℕ) → k < q → t k ≡ true → ⊥) → find t (range_with_len b n) ≡ Some q
find-range t b zero q l k h none = let no : ⊥ = omega arith in absurd no
find-range t b (suc n) q l k h none = elim (cases_order b q) [
  | inl same ↦ cond-true (t b) (Some b) (find t (range_with_len (b + 1) n)) (subst (λ z. t z ≡ true) (sym same) h) ∙ ap Some same
  | inr other ↦ elim other [
    | inl below ↦ elim (cases_Bool (t b)) [
      | inl passes ↦ absurd (none b below passes)
      | inr fails ↦ cond-false (t b) (Some b) (find t (range_with_len (b + 1) n)) fails ∙ find-range t (b + 1) n q (omega arith) (omega arith) h none
    ]
    | inr above ↦ let no : ⊥ = omega arith in absurd no
  ]
]

module _ (image : HeapImage) where
  abbrev B : ℕ
  B = prefix_end image

  -- a live word counts for the words after it
  pub live_words-past : (q r : ℕ) → is_live_word image q ≡ true → B ≤ q → q < r → live_words image B q < live_words image B r
  live_words-past q r live b l =
      let rest : ℕ = r - (q + 1) in
      let cut : r - B ≡ (q - B) + suc rest = omega arith in
      let at : B + (q - B) ≡ q = omega arith in
      let whole : live_words image B r ≡ count_by (is_live_word image) (range_with_len B (q - B)) + count_by (is_live_word image) (range_with_len (B + (q - B)) (suc rest)) =
      ap (λ n. count_by (is_live_word image) (range_with_len B n)) cut ∙ ap (count_by (is_live_word image)) (range_with_len-add B (q - B) (suc rest)) ∙ sum_by-append (λ x. cond (is_live_word image x) 1 0) (range_with_len B (q - B)) (range_with_len (B + (q - B)) (suc rest)) in
      let first : count_by (is_live_word image) (range_with_len q (suc rest)) ≡ 1 + count_by (is_live_word image) (range_with_len (q + 1) rest) = count_by-cons (is_live_word image) q (range_with_len (q + 1) rest) ∙ ap (λ c. c + count_by (is_live_word image) (range_with_len (q + 1) rest)) (cond-true (is_live_word image q) 1 0 live) in
      let same : count_by (is_live_word image) (range_with_len (B + (q - B)) (suc rest)) ≡ count_by (is_live_word image) (range_with_len q (suc rest)) = ap (λ c. count_by (is_live_word image) (range_with_len c (suc rest))) at in
      omega arith

  -- moves keep the order of live words
  pub slid-increasing : (q r : ℕ) → is_live_word image q ≡ true → q < r → slid image q < slid image r
  slid-increasing q r live l = elim (cases_lt q B) [
    | inl low ↦ elim (cases_lt r B) [
      | inl low' ↦ rw (cond-true (ltb q B) q (B + live_words image B q) (lt-ltb q B low)) (rw (cond-true (ltb r B) r (B + live_words image B r) (lt-ltb r B low')) l)
      | inr high ↦ rw (cond-true (ltb q B) q (B + live_words image B q) (lt-ltb q B low)) (rw (cond-false (ltb r B) r (B + live_words image B r) (le-ltb r B high)) (omega arith))
    ]
    | inr high ↦
        let more = live_words-past q r live high l in
        rw (cond-false (ltb q B) q (B + live_words image B q) (le-ltb q B high)) (rw (cond-false (ltb r B) r (B + live_words image B r) (le-ltb r B (omega arith))) (omega arith))
  ]

module _ (image : HeapImage) (sound : HasLiveList image) where
  abbrev goes_to : ℕ → ℕ → Bool
  goes_to p q = is_live_word image q && eqb (slid image q) p

  pub origin-find : (p : ℕ) → origin image p ≡ find (goes_to p) (range_with_len 0 (heap_words image))
  origin-find p =
      ap (λ ms. option_map (λ (m : ℕ × ℕ). m.0) (find (λ (m : ℕ × ℕ). eqb m.1 p) ms)) (word_moves-live image sound)
      ∙ find-map (λ q. (q, slid image q)) (λ n. eqb n p) (filter (is_live_word image) (range_with_len 0 (heap_words image))) (λ q. refl)
      ∙ find-filter (is_live_word image) (λ q. eqb (slid image q) p) (range_with_len 0 (heap_words image))

  -- the word at the new address of a live word comes from that word
  pub origin-slid : (q : ℕ) → q < heap_words image → is_live_word image q ≡ true → origin image (slid image q) ≡ Some q
  origin-slid q l live =
      origin-find (slid image q)
      ∙ find-range (goes_to (slid image q)) 0 (heap_words image) q (omega arith) (rw (zero-add (heap_words image)) l) (and_from (is_live_word image q) (eqb (slid image q) (slid image q)) live (eq-eqb (slid image q) (slid image q) refl))
      (λ k below e.
      let parts = and_parts (is_live_word image k) (eqb (slid image k) (slid image q)) e in
      let same : slid image k ≡ slid image q = eqb-true (slid image k) (slid image q) parts.1 in
      let less : slid image k < slid image q = slid-increasing image k q parts.0 below in
      omega arith)

  pub origin-Some : (p q : ℕ) → origin image p ≡ Some q → (is_live_word image q ≡ true) × (slid image q ≡ p)
  origin-Some p q e =
      let h = find-passes (goes_to p) (range_with_len 0 (heap_words image)) q (sym (origin-find p) ∙ e) in
      let parts = and_parts (is_live_word image q) (eqb (slid image q) p) h in
      (parts.0, eqb-true (slid image q) p parts.1)

  pub word_at-compact : (p : ℕ) → p < heap_words image → word_at (compact image) p ≡ compacted_word image p
  word_at-compact p l = get_or-map-range_with_len (compacted_word image) 0 (heap_words image) p p 0 l (zero-add p)

  -- the new address of a live word holds that word, redirected if it is a reference
  pub compact-slid : (q : ℕ) → q < heap_words image → is_live_word image q ≡ true → slid image q < heap_words image → slid image q < new_top image → word_at (compact image) (slid image q) ≡ carried image (λ _. true) q
  compact-slid q l live n t =
      word_at-compact (slid image q) n
      ∙ cond-true (ltb (slid image q) (new_top image)) (written image (λ _. true) (origin image (slid image q)) (slid image q)) 0 (lt-ltb (slid image q) (new_top image) t)
      ∙ ap (λ o. written image (λ _. true) o (slid image q)) (origin-slid q l live)

  pub word_at-moved : (p : ℕ) → p < heap_words image → word_at (moved image) p ≡ moved_word image p
  word_at-moved p l = get_or-map-range_with_len (moved_word image) 0 (heap_words image) p p 0 l (zero-add p)

  pub length-compact : heap_words (compact image) ≡ heap_words image
  length-compact = length-map-range_with_len (compacted_word image) 0 (heap_words image)
