-- The bits between the first and the last words of the objects, word by word.
use Rattle.std.proofs.Common.{◌≡◌, ℕ, zero, suc, ◌+◌, ◌-◌, ◌*◌, ◌/◌, ◌%◌, ◌^◌, ◌≤◌, ◌<◌, inl, inr, Bool, true, false, ◌||◌, ◌&&◌, eqb, leb, ltb, List, [], ◌∷◌, length, get_or, map, refl, sym, ◌∙◌, ap, arith}
use mir.Val.{bool_byte}
use Rattle.std.specs.Prelude.{not}
use Rattle.std.specs.Int.{bit_at}
use Rattle.std.specs.List.{list_any}
use Rattle.std.proofs.lemmas.Bool.{cases_lt, cases_order, eq-eqb, eqb-true, le-leb, leb-true, lt-ltb, ltb-true, and_parts, and_from, or_cases, or_left, or_right}
use Rattle.std.proofs.lemmas.Nat.Bits.{bit_at-lt, bit_at_cat_low, bit_at_cat_high, same_from_bits_below}
use Rattle.std.proofs.lemmas.List.Folds.{list_any_at}
use Rattle.std.proofs.Math.Nat.{add-mul}
use Rattle.std.proofs.Math.ListN.{set}
use Rattle.std.proofs.lemmas.List.{get_or-set_same, get_or-set_other}
use Rattle.object_heap.specs.HeapImage.{HeapImage, IsValid, heap_words, end_of, size_at, is_word_of, is_live_word}
use Rattle.object_heap.specs.Bits.{has}
use Rattle.mark_bitmap.specs.Marks.{AreBegins, AreBitsFrom, continues_at, is_begin, is_end}
use Rattle.mark_bitmap.proofs.Lemmas.Tests.{same_tests}
use Rattle.mark_bitmap.proofs.Lemmas.Apart.{place_of, sound_at, apart}

-- the tests of some numbers and of what they were made of
pub list_any-same : (p q : ℕ → Bool) (f : ℕ → ℕ) (xs : List ℕ) → ((i : ℕ) → i < length xs → p (f (get_or xs i 0)) ≡ q (get_or xs i 0)) → list_any p (map f xs) ≡ list_any q xs
list_any-same p q f [] h = refl
list_any-same p q f (x ∷ xs) h =
    ap (λ b. b || list_any p (map f xs)) (h 0 (omega arith))
    ∙ ap (λ b. q x || b) (list_any-same p q f xs (λ i l. h (suc i) (omega arith)))

-- a bit as a number
pub one : Bool → ℕ
one true = 1
one false = 0

-- the number whose lowest n bits are these, and whose others are 0
pub number : (ℕ → Bool) → ℕ → ℕ
number bits zero = 0
number bits (suc n) = one (bits n) * 2 ^ n + number bits n

one-is : (n : ℕ) → n < 2 → n ≡ one (eqb n 1)
unfolding one
one-is zero h = refl
one-is (suc zero) h = refl
one-is (suc (suc n)) h = let no : ⊥ = omega arith in absurd no

one-back : (b : Bool) → eqb (one b) 1 ≡ b
unfolding one
one-back true = refl
one-back false = refl

pub byte-is : (b : Bool) → bool_byte b ≡ one b
unfolding one
byte-is true = refl
byte-is false = refl

one-few : (b : Bool) → one b < 2
unfolding one
one-few true = omega arith
one-few false = omega arith

pub number-lt : (bits : ℕ → Bool) (n : ℕ) → number bits n < 2 ^ n
unfolding number one
number-lt bits zero = omega arith
number-lt bits (suc n) =
    let less : number bits n < 2 ^ n = number-lt bits n in
    top (bits n) less
  where
    top : (b : Bool) → number bits n < 2 ^ n → one b * 2 ^ n + number bits n < 2 ^ suc n
    top true less = omega arith
    top false less = omega arith

one-bit : (b : Bool) → bit_at (one b) 0 ≡ one b
unfolding one
one-bit true = refl
one-bit false = refl

pub number-bit : (bits : ℕ → Bool) (n j : ℕ) → j < n → bit_at (number bits n) j ≡ one (bits j)
unfolding number one
number-bit bits zero j h = let no : ⊥ = omega arith in absurd no
number-bit bits (suc n) j h = elim (cases_lt j n) [
  | inl below ↦ bit_at_cat_low (one (bits n)) n (number bits n) j below ∙ number-bit bits n j below
  | inr behind ↦
      let same : j ≡ n = omega arith in
      let place : j - n ≡ 0 = omega arith in
      bit_at_cat_high (one (bits n)) n (number bits n) j (number-lt bits n) behind
      ∙ ap (bit_at (one (bits n))) place ∙ one-bit (bits n) ∙ ap (λ m. one (bits m)) (sym same)
]

-- Of runs apart from one another: a place is in one where one begins or continues from the place before, and not both; and
-- it is in one where one ends or continues to the next place, and not both.
pub record AreRuns (begins ends live on : ℕ → Bool) : Type 0 where
  pub first : (k : ℕ) → one (live k) ≡ one (begins k) + one (on k)
  pub last : (k : ℕ) → one (live k) ≡ one (ends k) + one (on (k + 1))

pub runs-sum : (begins ends live on : ℕ → Bool) → AreRuns begins ends live on → (n : ℕ) → number live n + number begins n + one (on 0) ≡ 2 * number ends n + one (on n) * 2 ^ n
unfolding number one
runs-sum begins ends live on runs zero = omega arith
runs-sum begins ends live on runs (suc n) =
    let so_far : number live n + number begins n + one (on 0) ≡ 2 * number ends n + one (on n) * 2 ^ n = runs-sum begins ends live on runs n in
    let first : one (live n) * 2 ^ n ≡ one (begins n) * 2 ^ n + one (on n) * 2 ^ n = ap (λ m. m * 2 ^ n) (runs.first n) ∙ add-mul (one (begins n)) (one (on n)) (2 ^ n) in
    let last : one (live n) * 2 ^ n ≡ one (ends n) * 2 ^ n + one (on (n + 1)) * 2 ^ n = ap (λ m. m * 2 ^ n) (runs.last n) ∙ add-mul (one (ends n)) (one (on (n + 1))) (2 ^ n) in
    let same : suc n ≡ n + 1 = omega arith in
    let next : one (on (suc n)) * 2 ^ suc n ≡ one (on (n + 1)) * 2 ^ n + one (on (n + 1)) * 2 ^ n = twice (on (suc n)) n ∙ ap (λ m. one (on m) * 2 ^ n + one (on m) * 2 ^ n) same in
    omega arith
  where
    twice : (b : Bool) (n : ℕ) → one b * 2 ^ suc n ≡ one b * 2 ^ n + one b * 2 ^ n
    twice true n = omega arith
    twice false n = omega arith

-- the same of the places from one on
pub runs-from : (begins ends live on : ℕ → Bool) → AreRuns begins ends live on → (s : ℕ) → AreRuns (λ k. begins (s + k)) (λ k. ends (s + k)) (λ k. live (s + k)) (λ k. on (s + k))
runs-from begins ends live on runs s = record {
  first = λ k. runs.first (s + k);
  last = λ k. let next : s + k + 1 ≡ s + (k + 1) = omega arith in runs.last (s + k) ∙ ap (λ m. one (ends (s + k)) + one (on m)) next;
}

-- the bits of a word of the list, which is a part of a larger one
word-bits : (words : List ℕ) (start i word : ℕ) (test : ℕ → Bool) → word ≡ get_or words i 0 → i < length words → AreBitsFrom test start words → (j : ℕ) → j < 64 → bit_at word j ≡ one (test (64 * (start + i) + j))
word-bits words start i word test is inside bits j h =
    let quotient : i ≡ (64 * i + j) / 64 = omega arith in
    let rest : j ≡ (64 * i + j) % 64 = omega arith in
    let place : 64 * start + (64 * i + j) ≡ 64 * (start + i) + j = omega arith in
    one-is (bit_at word j) (bit_at-lt word j)
    ∙ ap (λ w. one (eqb (bit_at w j) 1)) is
    ∙ ap (λ n. one (eqb (bit_at (get_or words n 0) j) 1)) quotient
    ∙ ap (λ n. one (eqb (bit_at (get_or words ((64 * i + j) / 64) 0) n) 1)) rest
    ∙ ap one (bits (64 * i + j) (omega arith))
    ∙ ap (λ n. one (test n)) place

-- one more word has its bits
pub has-set : (words : List ℕ) (i word : ℕ) (test : ℕ → Bool) → i < length words → ((k : ℕ) → k < 64 * i → has words k ≡ test k) → ((j : ℕ) → j < 64 → bit_at word j ≡ one (test (64 * i + j))) → (k : ℕ) → k < 64 * (i + 1) → has (set words i word) k ≡ test k
has-set words i word test inside so_far bits k h = elim (cases_lt k (64 * i)) [
  | inl before ↦
      let other : k / 64 ≡ i → ⊥ = λ e. omega arith in
      ap (λ w. eqb (bit_at w (k % 64)) 1) (get_or-set_other words i (k / 64) word 0 other) ∙ so_far k before
  | inr here ↦
      let quotient : k / 64 ≡ i = omega arith in
      let place : 64 * i + k % 64 ≡ k = omega arith in
      ap (λ n. eqb (bit_at (get_or (set words i word) n 0) (k % 64)) 1) quotient
      ∙ ap (λ w. eqb (bit_at w (k % 64)) 1) (get_or-set_same words i word 0 inside)
      ∙ ap (λ n. eqb n 1) (bits (k % 64) (omega arith))
      ∙ one-back (test (64 * i + k % 64))
      ∙ ap test place
]

-- the word that the sums of the bits of a word give, and what continues after it
module _ (begins ends live on : ℕ → Bool) (runs : AreRuns begins ends live on) (b e w o : ℕ) (b_bits : (j : ℕ) → j < 64 → bit_at b j ≡ one (begins j)) (e_bits : (j : ℕ) → j < 64 → bit_at e j ≡ one (ends j)) (b_fits : b < 2 ^ 64) (e_fits : e < 2 ^ 64) (w_fits : w < 2 ^ 64) (before : o ≡ one (on 0)) (sums : (w + b + o) % 2 ^ 64 ≡ 2 * e % 2 ^ 64) where
  number-of : (n : ℕ) (bits : ℕ → Bool) → n < 2 ^ 64 → ((j : ℕ) → j < 64 → bit_at n j ≡ one (bits j)) → n ≡ number bits 64
  number-of n bits fits same = same_from_bits_below 64 n (number bits 64) fits (number-lt bits 64) (λ j l. same j l ∙ sym (number-bit bits 64 j l))

  pub word-is : w ≡ number live 64
  word-is =
      let b_is : b ≡ number begins 64 = number-of b begins b_fits b_bits in
      let e_is : e ≡ number ends 64 = number-of e ends e_fits e_bits in
      let less : number live 64 < 2 ^ 64 = number-lt live 64 in
      let sum : number live 64 + number begins 64 + one (on 0) ≡ 2 * number ends 64 + one (on 64) * 2 ^ 64 = runs-sum begins ends live on runs 64 in
      omega arith

  pub live_word-bits : (j : ℕ) → j < 64 → bit_at w j ≡ one (live j)
  live_word-bits j h = ap (λ n. bit_at n j) word-is ∙ number-bit live 64 j h

  pub continues_at-next : w / 2 ^ 63 ≡ e / 2 ^ 63 + one (on 64)
  continues_at-next =
      let top : bit_at w 63 ≡ one (live 63) = live_word-bits 63 (omega arith) in
      let end : bit_at e 63 ≡ one (ends 63) = e_bits 63 (omega arith) in
      let last : one (live 63) ≡ one (ends 63) + one (on 64) = runs.last 63 in
      omega arith

-- one of two tests, and not both
one-or : (t a b : Bool) → t ≡ (a || b) → (a ≡ true → b ≡ true → ⊥) → one t ≡ one a + one b
unfolding one
one-or t true true h k = absurd (k refl refl)
one-or t true false h k = ap one h
one-or t false true h k = ap one h
one-or t false false h k = ap one h

-- what is left of a sum of two tests without one of them
pub rest : (sum a b : Bool) → one sum ≡ one a + one b → b ≡ (sum && not a)
unfolding one
rest true true true h = let no : ⊥ = omega arith in absurd no
rest true true false h = refl
rest true false true h = refl
rest true false false h = let no : ⊥ = omega arith in absurd no
rest false true true h = let no : ⊥ = omega arith in absurd no
rest false true false h = let no : ⊥ = omega arith in absurd no
rest false false true h = let no : ⊥ = omega arith in absurd no
rest false false false h = refl

module _ (image : HeapImage) (valid : IsValid image) where
  -- a word of an object is its first, or one after another of its words
  pub first-or : (k : ℕ) → is_live_word image k ≡ (is_begin image k || continues_at image k)
  first-or k = same_tests (is_live_word image k) (is_begin image k || continues_at image k)
      (λ h. let here = place_of image valid (λ b. is_word_of image b k) h in
      let i : ℕ = here.0 in
      let a : ℕ = get_or image.live i 0 in
      let p = and_parts (leb a k) (ltb k (end_of image a)) here.2 in
      let low : a ≤ k = leb-true a k p.0 in
      elim (cases_lt a k) [
        | inl behind ↦ or_right (is_begin image k) (continues_at image k) (list_any_at (λ b. ltb b k && ltb k (end_of image b)) image.live i 0 here.1 (and_from (ltb a k) (ltb k (end_of image a)) (lt-ltb a k behind) p.1))
        | inr before ↦ or_left (is_begin image k) (continues_at image k) (list_any_at (λ b. eqb b k) image.live i 0 here.1 (eq-eqb a k (omega arith)))
      ])
      (λ h. elim (or_cases (is_begin image k) (continues_at image k) h) [
        | inl begin ↦
            let here = place_of image valid (λ b. eqb b k) begin in
            let i : ℕ = here.0 in
            let a : ℕ = get_or image.live i 0 in
            let same : a ≡ k = eqb-true a k here.2 in
            let some : 0 < size_at image a = (sound_at image valid i here.1).header in
            list_any_at (λ b. is_word_of image b k) image.live i 0 here.1 (and_from (leb a k) (ltb k (end_of image a)) (le-leb a k (omega arith)) (lt-ltb k (end_of image a) (omega arith)))
        | inr on ↦
            let here = place_of image valid (λ b. ltb b k && ltb k (end_of image b)) on in
            let i : ℕ = here.0 in
            let a : ℕ = get_or image.live i 0 in
            let p = and_parts (ltb a k) (ltb k (end_of image a)) here.2 in
            let low : a < k = ltb-true a k p.0 in
            list_any_at (λ b. is_word_of image b k) image.live i 0 here.1 (and_from (leb a k) (ltb k (end_of image a)) (le-leb a k (omega arith)) p.1)
      ])

  first-not_both : (k : ℕ) → is_begin image k ≡ true → continues_at image k ≡ true → ⊥
  first-not_both k begin on =
      let here = place_of image valid (λ b. eqb b k) begin in
      let there = place_of image valid (λ b. ltb b k && ltb k (end_of image b)) on in
      let i : ℕ = here.0 in
      let j : ℕ = there.0 in
      let same : get_or image.live i 0 ≡ k = eqb-true (get_or image.live i 0) k here.2 in
      let p = and_parts (ltb (get_or image.live j 0) k) (ltb k (end_of image (get_or image.live j 0))) there.2 in
      let low : get_or image.live j 0 < k = ltb-true (get_or image.live j 0) k p.0 in
      let high : k < end_of image (get_or image.live j 0) = ltb-true k (end_of image (get_or image.live j 0)) p.1 in
      elim (cases_order i j) [
        | inl equal ↦ let e : get_or image.live i 0 ≡ get_or image.live j 0 = ap (λ n. get_or image.live n 0) equal in omega arith
        | inr (inl before) ↦ let e : end_of image (get_or image.live i 0) ≤ get_or image.live j 0 = apart image valid i j before there.1 in omega arith
        | inr (inr behind) ↦ let e : end_of image (get_or image.live j 0) ≤ get_or image.live i 0 = apart image valid j i behind here.1 in omega arith
      ]

  -- a word of an object is its last, or one before another of its words
  last-or : (k : ℕ) → is_live_word image k ≡ (is_end image k || continues_at image (k + 1))
  last-or k = same_tests (is_live_word image k) (is_end image k || continues_at image (k + 1))
      (λ h. let here = place_of image valid (λ b. is_word_of image b k) h in
      let i : ℕ = here.0 in
      let a : ℕ = get_or image.live i 0 in
      let p = and_parts (leb a k) (ltb k (end_of image a)) here.2 in
      let low : a ≤ k = leb-true a k p.0 in
      let high : k < end_of image a = ltb-true k (end_of image a) p.1 in
      elim (cases_lt (k + 1) (end_of image a)) [
        | inl before ↦ or_right (is_end image k) (continues_at image (k + 1)) (list_any_at (λ b. ltb b (k + 1) && ltb (k + 1) (end_of image b)) image.live i 0 here.1 (and_from (ltb a (k + 1)) (ltb (k + 1) (end_of image a)) (lt-ltb a (k + 1) (omega arith)) (lt-ltb (k + 1) (end_of image a) before)))
        | inr last ↦ or_left (is_end image k) (continues_at image (k + 1)) (list_any_at (λ b. eqb (end_of image b) (k + 1)) image.live i 0 here.1 (eq-eqb (end_of image a) (k + 1) (omega arith)))
      ])
      (λ h. elim (or_cases (is_end image k) (continues_at image (k + 1)) h) [
        | inl end ↦
            let here = place_of image valid (λ b. eqb (end_of image b) (k + 1)) end in
            let i : ℕ = here.0 in
            let a : ℕ = get_or image.live i 0 in
            let same : end_of image a ≡ k + 1 = eqb-true (end_of image a) (k + 1) here.2 in
            let some : 0 < size_at image a = (sound_at image valid i here.1).header in
            list_any_at (λ b. is_word_of image b k) image.live i 0 here.1 (and_from (leb a k) (ltb k (end_of image a)) (le-leb a k (omega arith)) (lt-ltb k (end_of image a) (omega arith)))
        | inr on ↦
            let here = place_of image valid (λ b. ltb b (k + 1) && ltb (k + 1) (end_of image b)) on in
            let i : ℕ = here.0 in
            let a : ℕ = get_or image.live i 0 in
            let p = and_parts (ltb a (k + 1)) (ltb (k + 1) (end_of image a)) here.2 in
            let low : a < k + 1 = ltb-true a (k + 1) p.0 in
            let high : k + 1 < end_of image a = ltb-true (k + 1) (end_of image a) p.1 in
            list_any_at (λ b. is_word_of image b k) image.live i 0 here.1 (and_from (leb a k) (ltb k (end_of image a)) (le-leb a k (omega arith)) (lt-ltb k (end_of image a) (omega arith)))
      ])

  last-not_both : (k : ℕ) → is_end image k ≡ true → continues_at image (k + 1) ≡ true → ⊥
  last-not_both k end on =
      let here = place_of image valid (λ b. eqb (end_of image b) (k + 1)) end in
      let there = place_of image valid (λ b. ltb b (k + 1) && ltb (k + 1) (end_of image b)) on in
      let i : ℕ = here.0 in
      let j : ℕ = there.0 in
      let same : end_of image (get_or image.live i 0) ≡ k + 1 = eqb-true (end_of image (get_or image.live i 0)) (k + 1) here.2 in
      let p = and_parts (ltb (get_or image.live j 0) (k + 1)) (ltb (k + 1) (end_of image (get_or image.live j 0))) there.2 in
      let low : get_or image.live j 0 < k + 1 = ltb-true (get_or image.live j 0) (k + 1) p.0 in
      let high : k + 1 < end_of image (get_or image.live j 0) = ltb-true (k + 1) (end_of image (get_or image.live j 0)) p.1 in
      let some : 0 < size_at image (get_or image.live i 0) = (sound_at image valid i here.1).header in
      elim (cases_order i j) [
        | inl equal ↦ let e : end_of image (get_or image.live i 0) ≡ end_of image (get_or image.live j 0) = ap (λ n. end_of image (get_or image.live n 0)) equal in omega arith
        | inr (inl before) ↦ let e : end_of image (get_or image.live i 0) ≤ get_or image.live j 0 = apart image valid i j before there.1 in omega arith
        | inr (inr behind) ↦ let e : end_of image (get_or image.live j 0) ≤ get_or image.live i 0 = apart image valid j i behind here.1 in omega arith
      ]

  pub runs-of : AreRuns (is_begin image) (is_end image) (is_live_word image) (continues_at image)
  runs-of = record {
    first = λ k. one-or (is_live_word image k) (is_begin image k) (continues_at image k) (first-or k) (first-not_both k);
    last = λ k. one-or (is_live_word image k) (is_end image k) (continues_at image (k + 1)) (last-or k) (last-not_both k);
  }

  -- word i of the live bits, and whether an object continues after it
  live_word-is : (i b e w o : ℕ) → ((j : ℕ) → j < 64 → bit_at b j ≡ one (is_begin image (64 * i + j))) → ((j : ℕ) → j < 64 → bit_at e j ≡ one (is_end image (64 * i + j)))
      → b < 2 ^ 64 → e < 2 ^ 64 → w < 2 ^ 64 → o ≡ one (continues_at image (64 * i)) → (w + b + o) % 2 ^ 64 ≡ 2 * e % 2 ^ 64
      → ((j : ℕ) → j < 64 → bit_at w j ≡ one (is_live_word image (64 * i + j))) × (w / 2 ^ 63 ≡ e / 2 ^ 63 + one (continues_at image (64 * (i + 1))))
  live_word-is i b e w o b_bits e_bits b_fits e_fits w_fits before sums =
      let runs = runs-from (is_begin image) (is_end image) (is_live_word image) (continues_at image) runs-of (64 * i) in
      let here : 64 * i ≡ 64 * i + 0 = omega arith in
      let next : 64 * i + 64 ≡ 64 * (i + 1) = omega arith in
      let on : ℕ → Bool = λ k. continues_at image (64 * i + k) in
      let before' : o ≡ one (on 0) = before ∙ ap (λ n. one (continues_at image n)) here in (
        live_word-bits (λ k. is_begin image (64 * i + k)) (λ k. is_end image (64 * i + k)) (λ k. is_live_word image (64 * i + k)) on runs b e w o b_bits e_bits b_fits e_fits w_fits before' sums,
        continues_at-next (λ k. is_begin image (64 * i + k)) (λ k. is_end image (64 * i + k)) (λ k. is_live_word image (64 * i + k)) on runs b e w o b_bits e_bits b_fits e_fits w_fits before' sums
            ∙ ap (λ n. e / 2 ^ 63 + one (continues_at image n)) next,
      )

  -- the same of word i of a part, which has the bits of the addresses from 64 * start on
  pub part_word-is : (begins ends : List ℕ) (start i b w o : ℕ) → AreBegins image begins → AreBitsFrom (is_end image) start ends → start + i < length begins → i < length ends
      → b ≡ get_or begins (start + i) 0 → b < 2 ^ 64 → get_or ends i 0 < 2 ^ 64 → w < 2 ^ 64 → o ≡ one (continues_at image (64 * (start + i))) → (w + b + o) % 2 ^ 64 ≡ 2 * get_or ends i 0 % 2 ^ 64
      → ((j : ℕ) → j < 64 → bit_at w j ≡ one (is_live_word image (64 * (start + i) + j))) × (w / 2 ^ 63 ≡ get_or ends i 0 / 2 ^ 63 + one (continues_at image (64 * (start + i + 1))))
  part_word-is begins ends start i b w o begin_bits end_bits inside few is b_fits e_fits w_fits before sums =
      live_word-is (start + i) b (get_or ends i 0) w o
      (λ j h. word-bits begins 0 (start + i) b (is_begin image) is inside (λ k l. begin_bits.bits k ∙ ap (is_begin image) (omega arith)) j h ∙ ap (λ n. one (is_begin image n)) (omega arith))
      (word-bits ends start i (get_or ends i 0) (is_end image) refl few end_bits)
      b_fits e_fits w_fits before sums

  -- every live word is in the heap
  pub live-inside : (k : ℕ) → is_live_word image k ≡ true → k < heap_words image
  live-inside k h =
      let here = place_of image valid (λ b. is_word_of image b k) h in
      let a : ℕ = get_or image.live here.0 0 in
      let p = and_parts (leb a k) (ltb k (end_of image a)) here.2 in
      let high : k < end_of image a = ltb-true k (end_of image a) p.1 in
      let inside : end_of image a ≤ heap_words image = (sound_at image valid here.0 here.1).inside in
      omega arith
