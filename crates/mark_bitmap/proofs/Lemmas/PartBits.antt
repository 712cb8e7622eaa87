-- The bits of parts, and the objects that end in a part.
use Rattle.std.proofs.Common.{◌≡◌, ℕ, ◌+◌, ◌-◌, ◌*◌, ◌/◌, ◌%◌, ◌≤◌, ◌<◌, inl, inr, min, Bool, true, false, ◌||◌, ◌&&◌, eqb, ltb, List, ◌++◌, All, length, get_or, take, drop, sym, ◌∙◌, ap, arith}
use Rattle.std.specs.Int.{bit_at}
use Rattle.std.specs.List.{list_any}
use Rattle.std.proofs.Math.Bool.{or-false}
use Rattle.std.proofs.Math.ListN.{get_or-append, get_or-eq_default}
use Rattle.std.proofs.Math.Seq.{get_or-append_right}
use Rattle.std.proofs.lemmas.Bool.{cases_lt, cases_order, ne_eqb, ltb-true, lt-ltb, and_parts, and_from, false_from_ne_true}
use Rattle.std.proofs.lemmas.List.{get_or-take, get_or-drop, take-append-drop, length-append, length-take, length-drop}
use Rattle.std.proofs.lemmas.List.Folds.{list_any-append, list_any_at, list_any_none}
use Rattle.std.proofs.lemmas.Grind.{get_or_default_zero}
use Rattle.std.proofs.lemmas.Nat.Bits.{bit_at-zero}
use Rattle.object_heap.specs.HeapImage.{HeapImage, IsValid, size_at, end_of}
use Rattle.object_heap.specs.Bits.{has}
use Rattle.mark_bitmap.proofs.Lemmas.Tests.{same_tests}
use Rattle.mark_bitmap.specs.Marks.{AreBitsFrom, IsFirstObject, continues_at}
use Rattle.mark_bitmap.proofs.Lemmas.Apart.{apart, sound_at, place_of}

-- the bits of two parts, one after the other
pub join_bits : (test : ℕ → Bool) (start : ℕ) (xs ys : List ℕ) → AreBitsFrom test start xs → AreBitsFrom test (start + length xs) ys → AreBitsFrom test start (xs ++ ys)
join_bits test start xs ys front back n inside = elim (cases_lt n (64 * length xs)) [
  | inl low ↦ ap (λ w. eqb (bit_at w (n % 64)) 1) (get_or-append xs ys 0 (n / 64) (omega arith)) ∙ front n low
  | inr high ↦
      let k : ℕ = n - 64 * length xs in
      let rest : k < 64 * length ys = omega (arith, length-append xs ys) in
      let quotient : n / 64 - length xs ≡ k / 64 = omega arith in
      let bit : n % 64 ≡ k % 64 = omega arith in
      let place : 64 * (start + length xs) + k ≡ 64 * start + n = omega arith in
      ap (λ w. eqb (bit_at w (n % 64)) 1) (get_or-append_right xs ys (n / 64) 0 (omega arith))
      ∙ ap (λ m. eqb (bit_at (get_or ys m 0) (n % 64)) 1) quotient
      ∙ ap (λ m. eqb (bit_at (get_or ys (k / 64) 0) m) 1) bit
      ∙ back k rest
      ∙ ap test place
]

-- no bit past the words is set
beyond : (words : List ℕ) (k : ℕ) → 64 * length words ≤ k → has words k ≡ false
beyond words k past = ap (λ w. eqb (bit_at w (k % 64)) 1) (get_or-eq_default words 0 (omega arith)) ∙ ap (λ b. eqb b 1) (bit_at-zero (k % 64))

-- no bit of a zero is set
pub none_set : (words : List ℕ) → All (λ word. word ≡ 0) words → (k : ℕ) → has words k ≡ false
none_set words none k = elim (cases_lt k (64 * length words)) [
  | inl inside ↦ ap (λ w. eqb (bit_at w (k % 64)) 1) (none (k / 64) 0 (omega arith)) ∙ ap (λ b. eqb b 1) (bit_at-zero (k % 64))
  | inr past ↦ beyond words k past
]

-- the bits of all words
pub all_bits : (test : ℕ → Bool) (words : List ℕ) → AreBitsFrom test 0 words → ((k : ℕ) → test k ≡ true → k < 64 * length words) → (k : ℕ) → has words k ≡ test k
all_bits test words bits few k = elim (cases_lt k (64 * length words)) [
  | inl inside ↦ let place : 64 * 0 + k ≡ k = omega arith in bits k inside ∙ ap test place
  | inr past ↦ beyond words k past ∙ sym (false_from_ne_true (test k) (λ h. let inside = few k h in omega arith))
]

-- the first of a list pass no test that each of them fails
pub none-taken : (p : ℕ → Bool) (xs : List ℕ) (n : ℕ) → ((j : ℕ) → j < n → j < length xs → p (get_or xs j 0) ≡ false) → list_any p (take n xs) ≡ false
none-taken p xs n fails = list_any_none p (take n xs) (λ j d l.
    let long : length (take n xs) ≡ min n (length xs) = length-take n xs in
    let few : j < n = omega arith in
    let inside : j < length xs = omega arith in
    ap p (get_or-take n xs j d few ∙ get_or_default_zero xs j d inside) ∙ fails j few inside)

-- nor do the others
none-dropped : (p : ℕ → Bool) (xs : List ℕ) (n : ℕ) → ((j : ℕ) → n ≤ j → j < length xs → p (get_or xs j 0) ≡ false) → list_any p (drop n xs) ≡ false
none-dropped p xs n fails = list_any_none p (drop n xs) (λ j d l.
    let long : length (drop n xs) ≡ length xs - n = length-drop n xs in
    let inside : n + j < length xs = omega arith in
    ap p (get_or-drop n xs j d ∙ get_or_default_zero xs (n + j) d inside) ∙ fails (n + j) (omega arith) inside)

-- and so the first of the list decide where each other fails
pub taken-decide : (p : ℕ → Bool) (xs : List ℕ) (n : ℕ) → ((j : ℕ) → n ≤ j → j < length xs → p (get_or xs j 0) ≡ false) → list_any p (take n xs) ≡ list_any p xs
taken-decide p xs n fails =
    sym (or-false (list_any p (take n xs)))
    ∙ ap (λ b. list_any p (take n xs) || b) (sym (none-dropped p xs n fails))
    ∙ sym (list_any-append p (take n xs) (drop n xs))
    ∙ ap (list_any p) (take-append-drop n xs)

module _ (image : HeapImage) (valid : IsValid image) where
  pub ascending : (i j : ℕ) → i ≤ j → j < length image.live → get_or image.live i 0 ≤ get_or image.live j 0
  ascending i j le inside = elim (cases_order i j) [
    | inl same ↦ let e : get_or image.live i 0 ≡ get_or image.live j 0 = ap (λ n. get_or image.live n 0) same in omega arith
    | inr (inl before) ↦ let e : end_of image (get_or image.live i 0) ≤ get_or image.live j 0 = apart image valid i j before inside in omega arith
    | inr (inr behind) ↦ let no : ⊥ = omega arith in absurd no
  ]

  -- the objects before the last one that begins below a place end below it
  pub none_ends_before : (place i n e : ℕ) → IsFirstObject image place i → n ≤ i - 1 → place < e → list_any (λ a. eqb (end_of image a) e) (take n image.live) ≡ false
  none_ends_before place i n e first few behind = none-taken (λ a. eqb (end_of image a) e) image.live n (λ j l inside.
      let most : i ≤ length image.live = first.inside in
      let last : get_or image.live (i - 1) 0 < place = first.before (i - 1) (omega arith) in
      let below : end_of image (get_or image.live j 0) ≤ get_or image.live (i - 1) 0 = apart image valid j (i - 1) (omega arith) (omega arith) in
      ne_eqb (end_of image (get_or image.live j 0)) e (λ same. omega arith))

  -- the objects that begin from a place on end after it
  pub those_before_end : (place i n e : ℕ) → IsFirstObject image place i → i ≤ n → e ≤ place → list_any (λ a. eqb (end_of image a) e) (take n image.live) ≡ list_any (λ a. eqb (end_of image a) e) image.live
  those_before_end place i n e first most before = taken-decide (λ a. eqb (end_of image a) e) image.live n (λ j l inside.
      let begin : place ≤ get_or image.live j 0 = first.behind j (omega arith) inside in
      let some : 0 < size_at image (get_or image.live j 0) = (sound_at image valid j inside).header in
      ne_eqb (end_of image (get_or image.live j 0)) e (λ same. omega arith))

  -- no object continues at a place before which none begins
  pub none-continues_at : (place : ℕ) → IsFirstObject image place 0 → continues_at image place ≡ false
  none-continues_at place first = false_from_ne_true (continues_at image place) (λ h.
      let here = place_of image valid (λ a. ltb a place && ltb place (end_of image a)) h in
      let begin : place ≤ get_or image.live here.0 0 = first.behind here.0 (omega arith) here.1 in
      let low : get_or image.live here.0 0 < place = ltb-true (get_or image.live here.0 0) place (and_parts (ltb (get_or image.live here.0 0) place) (ltb place (end_of image (get_or image.live here.0 0))) here.2).0 in
      omega arith)

  -- else the last object that begins before it continues, or none does
  pub last-continues_at : (place i : ℕ) → IsFirstObject image place i → 0 < i → ltb place (end_of image (get_or image.live (i - 1) 0)) ≡ continues_at image place
  last-continues_at place i first some =
      let most : i ≤ length image.live = first.inside in
      let last : ℕ = get_or image.live (i - 1) 0 in
      let low : last < place = first.before (i - 1) (omega arith) in
      same_tests (ltb place (end_of image last)) (continues_at image place)
      (λ h. list_any_at (λ a. ltb a place && ltb place (end_of image a)) image.live (i - 1) 0 (omega arith) (and_from (ltb last place) (ltb place (end_of image last)) (lt-ltb last place low) h))
      (λ h. let here = place_of image valid (λ a. ltb a place && ltb place (end_of image a)) h in
      let j : ℕ = here.0 in
      let a : ℕ = get_or image.live j 0 in
      let parts = and_parts (ltb a place) (ltb place (end_of image a)) here.2 in
      let begins : a < place = ltb-true a place parts.0 in
      let goes : place < end_of image a = ltb-true place (end_of image a) parts.1 in
      elim (cases_order j (i - 1)) [
        | inl same ↦ ap (λ n. ltb place (end_of image (get_or image.live n 0))) (sym same) ∙ parts.1
        | inr (inl before) ↦
            let below : end_of image a ≤ last = apart image valid j (i - 1) before (omega arith) in
            let no : ⊥ = omega arith in absurd no
        | inr (inr behind) ↦
            let past : place ≤ a = first.behind j (omega arith) here.1 in
            let no : ⊥ = omega arith in absurd no
      ])
