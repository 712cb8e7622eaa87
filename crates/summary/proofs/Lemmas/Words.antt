-- Live words one by one: their objects, their counts, and their new addresses.
use Rattle.std.proofs.Common.{◌≡◌, ℕ, zero, suc, ◌+◌, ◌-◌, ◌≤◌, ◌<◌, inl, inr, Bool, true, false, cond, List, [], ◌∷◌, length, get_or, refl, sym, ◌∙◌, ap, arith, ltb}
use Rattle.std.proofs.lemmas.Bool.{false≢true, cases_Bool, cases_lt, cases_order, cond-true, cond-false, lt-ltb, le-ltb}
use Rattle.std.proofs.lemmas.List.{get_or_default}
use Rattle.std.proofs.lemmas.List.Folds.{list_any_at, Any-from_list_any}
use Rattle.std.proofs.lemmas.List.FromFn.{length-range_with_len}
use Rattle.std.proofs.lemmas.List.Sums.{count_by-le-length}
use Rattle.std.specs.Prelude.{count_by, Some, None, Option}
use Rattle.std.specs.List.{range_with_len}
use Rattle.object_heap.specs.HeapImage.{HeapImage, HasLiveList, heap_words, size_at, end_of, is_word_of, is_live_word, live_words}
use Rattle.summary.proofs.Lemmas.Spans.{count_by-cons, is_in_parts, is_in_inside}
use Rattle.summary.proofs.Lemmas.LiveWords.{live_apart, live_end-le}
use Rattle.summary.specs.NewAddresses.{prefix_end, new_top}
use Rattle.summary.specs.WordMoves.{slid, origin}
use Rattle.summary.proofs.Lemmas.Addresses.{EndBefore, EndBefore-at, new_top-live_words}
use Rattle.summary.proofs.Lemmas.Destinations.{count_by-parts}
use Rattle.summary.proofs.Lemmas.Origin.{slid-increasing, live_words-past, origin-slid, origin-Some}

-- the address with k passing ones before it
pub count_by_nth : (p : ℕ → Bool) (b n k : ℕ) → k < count_by p (range_with_len b n) → (q : ℕ) × (b ≤ q) × (q < b + n) × (p q ≡ true) × (count_by p (range_with_len b (q - b)) ≡ k)
count_by_nth p b zero k l = let no : ⊥ = omega arith in absurd no
count_by_nth p b (suc n) k l =
    let one = count_by-cons p b (range_with_len (b + 1) n) in
    elim (cases_Bool (p b)) [
      | inl passes ↦
          let c : cond {A = ℕ} (p b) 1 0 ≡ 1 = cond-true (p b) 1 0 passes in
          elim (cases_lt 0 k) [
            | inl some ↦
                let r = count_by_nth p (b + 1) n (k - 1) (omega arith) in
                let q : ℕ = r.0 in
                let low : b + 1 ≤ q = r.1 in
                let high : q < b + 1 + n = r.2 in
                let long : q - b ≡ suc (q - (b + 1)) = omega arith in
                let front = count_by-cons p b (range_with_len (b + 1) (q - (b + 1))) in
                let more : count_by p (range_with_len (b + 1) (q - (b + 1))) ≡ k - 1 = r.4 in
                (q, omega arith, omega arith, r.3, ap (λ m. count_by p (range_with_len b m)) long ∙ omega arith)
            | inr none ↦
                let z : b - b ≡ 0 = omega arith in
                (b, omega arith, omega arith, passes, ap (λ m. count_by p (range_with_len b m)) z ∙ omega arith)
          ]
      | inr fails ↦
          let c : cond {A = ℕ} (p b) 1 0 ≡ 0 = cond-false (p b) 1 0 fails in
          let r = count_by_nth p (b + 1) n k (omega arith) in
          let q : ℕ = r.0 in
          let low : b + 1 ≤ q = r.1 in
          let high : q < b + 1 + n = r.2 in
          let long : q - b ≡ suc (q - (b + 1)) = omega arith in
          let front = count_by-cons p b (range_with_len (b + 1) (q - (b + 1))) in
          let more : count_by p (range_with_len (b + 1) (q - (b + 1))) ≡ k = r.4 in
          (q, omega arith, omega arith, r.3, ap (λ m. count_by p (range_with_len b m)) long ∙ omega arith)
    ]

pub count_by-range-le : (p : ℕ → Bool) (b n : ℕ) → count_by p (range_with_len b n) ≤ n
count_by-range-le p b n =
    let few = count_by-le-length p (range_with_len b n) in
    let long = length-range_with_len b n in
    omega arith

module _ (image : HeapImage) where
  abbrev B : ℕ
  B = prefix_end image

  pub live_words-add : (a b c : ℕ) → a ≤ b → b ≤ c → live_words image a c ≡ live_words image a b + live_words image b c
  live_words-add a b c l m =
      let long : c - a ≡ (b - a) + (c - b) = omega arith in
      let at : a + (b - a) ≡ b = omega arith in
      ap (λ n. count_by (is_live_word image) (range_with_len a n)) long
      ∙ count_by-parts (is_live_word image) a (b - a) (c - b)
      ∙ ap (λ s. count_by (is_live_word image) (range_with_len a (b - a)) + count_by (is_live_word image) (range_with_len s (c - b))) at

  pub live_words-le : (a b : ℕ) → live_words image a b ≤ b - a
  live_words-le a b = count_by-range-le (is_live_word image) a (b - a)

  -- a live word counts for the words after it
  pub live_words-more : (a q r : ℕ) → a ≤ q → q < r → is_live_word image q ≡ true → live_words image a q < live_words image a r
  live_words-more a q r l m live =
      let cut = live_words-add a q r l (omega arith) in
      let len : r - q ≡ suc (r - q - 1) = omega arith in
      let one = count_by-cons (is_live_word image) q (range_with_len (q + 1) (r - q - 1)) in
      let first : cond {A = ℕ} (is_live_word image q) 1 0 ≡ 1 = cond-true (is_live_word image q) 1 0 live in
      let rest : live_words image q r ≡ count_by (is_live_word image) (range_with_len q (suc (r - q - 1))) = ap (λ n. count_by (is_live_word image) (range_with_len q n)) len in
      omega arith

  pub slid-low : (q : ℕ) → q < B → slid image q ≡ q
  slid-low q l = cond-true (ltb q B) q (B + live_words image B q) (lt-ltb q B l)

  pub slid-high : (q : ℕ) → B ≤ q → slid image q ≡ B + live_words image B q
  slid-high q l = cond-false (ltb q B) q (B + live_words image B q) (le-ltb q B l)

  -- no word goes up
  pub slid-le : (q : ℕ) → slid image q ≤ q
  slid-le q = elim (cases_lt q B) [
    | inl low ↦ let e = slid-low q low in omega arith
    | inr high ↦ let e = slid-high q high in let few = live_words-le B q in omega arith
  ]

  pub slid-above : (q : ℕ) → B ≤ q → B ≤ slid image q
  slid-above q l = let e = slid-high q l in omega arith

  pub slid-ordered : (q r : ℕ) → is_live_word image q ≡ true → q ≤ r → slid image q ≤ slid image r
  slid-ordered q r live l = elim (cases_order q r) [
    | inl same ↦ let e : slid image q ≡ slid image r = ap (slid image) same in omega arith
    | inr other ↦ elim other [
      | inl less ↦ let m = slid-increasing image q r live less in omega arith
      | inr more ↦ let no : ⊥ = omega arith in absurd no
    ]
  ]

module _ (image : HeapImage) (sound : HasLiveList image) where
  abbrev place : ℕ → ℕ
  place i = get_or image.live i 0

  abbrev P : ℕ
  P = prefix_end image

  -- the object that a live word is of
  pub owner : (q : ℕ) → is_live_word image q ≡ true → (i : ℕ) × (i < length image.live) × (place i ≤ q) × (q < end_of image (place i))
  owner q h =
      let at = Any-from_list_any (λ a. is_word_of image a q) image.live h in
      let x : ℕ = at.1 in
      let l : at.0 < length image.live = at.2 in
      let same : get_or image.live at.0 x ≡ x = at.3 in
      let is : get_or image.live at.0 0 ≡ x = get_or_default image.live at.0 0 x l ∙ same in
      let parts = is_in_parts x (size_at image x) q at.4 in
      (at.0, l, rw is parts.0, rw is parts.1)

  pub live_below : (q : ℕ) → is_live_word image q ≡ true → q < heap_words image
  live_below q h = let o = owner q h in let e = live_end-le image sound o.0 o.1 in let m : q < end_of image (place o.0) = o.3 in omega arith

  pub is_live : (i q : ℕ) → i < length image.live → place i ≤ q → q < end_of image (place i) → is_live_word image q ≡ true
  is_live i q l a b = list_any_at (λ c. is_word_of image c q) image.live i 0 l (is_in_inside (place i) (size_at image (place i)) q a b)

  pub ends_before : (k i : ℕ) → k < length image.live → i < length image.live → place k < place i → end_of image (place k) ≤ place i
  ends_before k i m l less = each image.live ((EndBefore-at (size_at image) 0 image.live (live_apart image sound) i l).1) k m less
    where
      each : (xs : List ℕ) → EndBefore (size_at image) (place i) xs → (k : ℕ) → k < length xs → get_or xs k 0 < place i → get_or xs k 0 + size_at image (get_or xs k 0) ≤ place i
      each [] h k m less = let no : ⊥ = omega arith in absurd no
      each (x ∷ xs) h zero m less = h.0 less
      each (x ∷ xs) h (suc k) m less = each xs h.1 k (omega arith) less

  -- no word is of two objects
  pub one_owner : (i k q : ℕ) → i < length image.live → k < length image.live → place i ≤ q → q < end_of image (place i) → place k ≤ q → q < end_of image (place k) → place i ≡ place k
  one_owner i k q l m a b c d = elim (cases_order (place i) (place k)) [
    | inl same ↦ same
    | inr other ↦ elim other [
      | inl less ↦ let e = ends_before i k l m less in let no : ⊥ = omega arith in absurd no
      | inr more ↦ let e = ends_before k i m l more in let no : ⊥ = omega arith in absurd no
    ]
  ]

  pub slid-below : (q : ℕ) → is_live_word image q ≡ true → slid image q < new_top image
  slid-below q live =
      let e = new_top-live_words image sound in
      let l = live_below q live in
      elim (cases_lt q P) [
        | inl low ↦ let s = slid-low image q low in omega arith
        | inr high ↦ let s = slid-high image q high in let more = live_words-past image q (heap_words image) live high l in omega arith
      ]

  -- each address from the prefix end up to the new top gets a live word
  pub slid-onto : (p : ℕ) → P ≤ p → p < new_top image → (q : ℕ) × (P ≤ q) × (is_live_word image q ≡ true) × (slid image q ≡ p)
  slid-onto p l m =
      let e = new_top-live_words image sound in
      let r = count_by_nth (is_live_word image) P (heap_words image - P) (p - P) (omega arith) in
      let q : ℕ = r.0 in
      let low : P ≤ q = r.1 in
      let s = slid-high image q low in
      let count : live_words image P q ≡ p - P = r.4 in
      (q, low, r.3, omega arith)

  pub origin-above : (p : ℕ) → P ≤ p → p < new_top image → (q : ℕ) × (origin image p ≡ Some q)
  origin-above p l m =
      let r = slid-onto p l m in
      let q : ℕ = r.0 in
      let live : is_live_word image q ≡ true = r.2 in
      let to : slid image q ≡ p = r.3 in
      (q, ap (origin image) (sym to) ∙ origin-slid image sound q (live_below q live) live)

  -- an address below the new top to which no word goes lies in the dense prefix
  pub nowhere-in_prefix : (p : ℕ) → p < new_top image → origin image p ≡ None → p < prefix_end image
  nowhere-in_prefix p below e = elim (cases_lt p (prefix_end image)) [
    | inl low ↦ low
    | inr high ↦ let o = origin-above p high below in absurd (none o.0 (sym e ∙ o.1))
  ]
    where
      none : (q : ℕ) → None ≡ Some q → ⊥
      none q h = cc

  pub origin-live : (p : ℕ) → p < P → is_live_word image p ≡ true → origin image p ≡ Some p
  origin-live p l live = ap (origin image) (sym (slid-low image p l)) ∙ origin-slid image sound p (live_below p live) live

  pub origin-dead : (p : ℕ) → p < P → is_live_word image p ≡ false → origin image p ≡ None
  origin-dead p l dead = each (origin image p) refl
    where
      each : (o : Option ℕ) → origin image p ≡ o → o ≡ None
      each None e = refl
      each (Some q) e =
          let h = origin-Some image sound p q e in
          let live : is_live_word image q ≡ true = h.0 in
          let to : slid image q ≡ p = h.1 in
          elim (cases_lt q P) [
            | inl low ↦
                let s = slid-low image q low in
                let same : q ≡ p = omega arith in
                let both : true ≡ false = sym live ∙ ap (is_live_word image) same ∙ dead in absurd (false≢true (sym both))
            | inr high ↦ let s = slid-above image q high in let no : ⊥ = omega arith in absurd no
          ]

  -- above the new top, and only there or at a dead word of the prefix, nothing goes
  pub origin-top : (p : ℕ) → new_top image ≤ p → origin image p ≡ None
  origin-top p l = each (origin image p) refl
    where
      each : (o : Option ℕ) → origin image p ≡ o → o ≡ None
      each None e = refl
      each (Some q) e =
          let h = origin-Some image sound p q e in
          let to : slid image q ≡ p = h.1 in
          let below = slid-below q h.0 in
          let no : ⊥ = omega arith in absurd no
