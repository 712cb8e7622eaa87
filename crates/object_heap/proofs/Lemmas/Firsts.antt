-- The first bit from a place on.
use Rattle.std.proofs.Common.{◌≡◌, ℕ, ◌+◌, ◌-◌, ◌*◌, ◌/◌, ◌%◌, ◌≤◌, ◌<◌, inl, inr, Bool, true, false, ◌&&◌, not, eqb, leb, ltb, List, length, get_or, take, drop, Some, None, refl, sym, ◌∙◌, ap, arith, bit_and}
use Rattle.std.specs.Int.{bit_at}
use Rattle.std.proofs.lemmas.Bool.{true≢false, cases_Bool, cases_lt, and_parts, leb-true, le-leb, eqb-true, ltb-false, eqb-false, not-true, not-false, cond-true}
use Rattle.std.proofs.lemmas.List.{get_or-drop, take_all, length-drop}
use Rattle.std.proofs.lemmas.List.Sums.{fails_before_first}
use Rattle.std.proofs.lemmas.List.Quantifiers.{position-Some}
use Rattle.std.specs.List.{position, position_or_len}
use Rattle.std.proofs.Math.ListN.{get_or-eq_default}
use Rattle.std.proofs.lemmas.Nat.Bits.{bit_at_and, bit_at-lt, bit_at-zero}
use Rattle.object_heap.specs.Bits.{has, NoneFrom, IsFirstFrom}
use Rattle.object_heap.proofs.Lemmas.Places.{same_tests, min-is_one}
use Rattle.object_heap.proofs.Lemmas.Masks.{low_mask, low_mask-bit}

-- rest has those bits of the word with index i that lie at `from` or after it
abbrev pub IsRest : List ℕ → ℕ → ℕ → ℕ → Type 0
IsRest words from i rest = (j : ℕ) → j < 64 → eqb (bit_at rest j) 1 ≡ (has words (64 * i + j) && leb from (64 * i + j))

-- no bit from `from` on is set in a word before the one with index i
abbrev pub NoneBefore : List ℕ → ℕ → ℕ → Type 0
NoneBefore words from i = (k : ℕ) → from ≤ k → k / 64 < i → has words k ≡ false

left_fails : (a b : Bool) → (a && b) ≡ false → b ≡ true → a ≡ false
left_fails true b h k = absurd (true≢false (sym k ∙ h))
left_fails false b h k = refl

pub IsFirstFrom-in_word : (words : List ℕ) (from i rest place : ℕ) → IsRest words from i rest → NoneBefore words from i → place < 64 → bit_at rest place ≡ 1 → ((j : ℕ) → j < place → bit_at rest j ≡ 0) → IsFirstFrom (has words) from (64 * i + place)
IsFirstFrom-in_word words from i rest place is none small set least =
    let both = and_parts (has words (64 * i + place)) (leb from (64 * i + place)) (sym (is place small) ∙ ap (λ n. eqb n 1) set) in
    record {
      behind = leb-true from (64 * i + place) both.1;
      passes = both.0;
      least = λ k f b. before k f b;
    }
  where
    before : (k : ℕ) → from ≤ k → k < 64 * i + place → has words k ≡ false
    before k f b = elim (cases_lt (k / 64) i) [
      | inl lower ↦ none k f lower
      | inr here ↦
          let at : 64 * i + k % 64 ≡ k = omega arith in
          let fails : (has words k && leb from k) ≡ false = ap (λ n. has words n && leb from n) (sym at) ∙ sym (is (k % 64) (omega arith)) ∙ ap (λ n. eqb n 1) (least (k % 64) (omega arith)) in
          left_fails (has words k) (leb from k) fails (le-leb from k f)
    ]

-- the bits of the first word from `from` on
pub IsRest-first : (words : List ℕ) (from word : ℕ) → word ≡ get_or words (from / 64) 0 → IsRest words from (from / 64) (bit_and word (low_mask (from % 64)))
IsRest-first words from word is j l =
    let q : ℕ = from / 64 in
    let e : (64 * q + j) / 64 ≡ q = omega arith in
    let f : (64 * q + j) % 64 ≡ j = omega arith in
    ap (λ n. eqb n 1) (bit_at_and word (low_mask (from % 64)) j)
    ∙ min-is_one (bit_at word j) (bit_at (low_mask (from % 64)) j) (bit_at-lt word j) (bit_at-lt (low_mask (from % 64)) j)
    ∙ ap (λ b. eqb (bit_at word j) 1 && b) (low_mask-bit (from % 64) j (omega arith) l ∙ same_place)
    ∙ ap (λ n. eqb (bit_at n j) 1 && leb from (64 * q + j)) (is ∙ ap (λ n. get_or words n 0) (sym e))
    ∙ ap (λ n. eqb (bit_at (get_or words ((64 * q + j) / 64) 0) n) 1 && leb from (64 * q + j)) (sym f)
  where
    same_place : leb (from % 64) j ≡ leb from (64 * (from / 64) + j)
    same_place = same_tests (leb (from % 64) j) (leb from (64 * (from / 64) + j))
        (λ h. let a : from % 64 ≤ j = leb-true (from % 64) j h in le-leb from (64 * (from / 64) + j) (omega arith))
        (λ h. let a : from ≤ 64 * (from / 64) + j = leb-true from (64 * (from / 64) + j) h in le-leb (from % 64) j (omega arith))

-- a word after the first
pub IsRest-behind : (words : List ℕ) (from i word : ℕ) → from / 64 < i → word ≡ get_or words i 0 → IsRest words from i word
IsRest-behind words from i word behind is j l =
    let e : (64 * i + j) / 64 ≡ i = omega arith in
    let f : (64 * i + j) % 64 ≡ j = omega arith in
    ap (λ n. eqb (bit_at n j) 1) (is ∙ ap (λ n. get_or words n 0) (sym e))
    ∙ ap (λ n. eqb (bit_at (get_or words ((64 * i + j) / 64) 0) n) 1) (sym f)
    ∙ passes (has words (64 * i + j)) (leb from (64 * i + j)) (le-leb from (64 * i + j) (omega arith))
  where
    passes : (a b : Bool) → b ≡ true → a ≡ (a && b)
    passes true b h = sym h
    passes false b h = refl

pub NoneBefore-first : (words : List ℕ) (from : ℕ) → NoneBefore words from (from / 64)
NoneBefore-first words from k f l = let no : ⊥ = omega arith in absurd no

pub NoneBefore-second : (words : List ℕ) (from rest : ℕ) → IsRest words from (from / 64) rest → rest ≡ 0 → NoneBefore words from (from / 64 + 1)
NoneBefore-second words from rest is none k f l =
    let at : 64 * (from / 64) + k % 64 ≡ k = omega arith in
    let fails : (has words k && leb from k) ≡ false = ap (λ n. has words n && leb from n) (sym at) ∙ sym (is (k % 64) (omega arith)) ∙ ap (λ n. eqb (bit_at n (k % 64)) 1) none ∙ ap (λ n. eqb n 1) (bit_at-zero (k % 64)) in
    left_fails (has words k) (leb from k) fails (le-leb from k f)

pub NoneBefore-more : (words : List ℕ) (from n m : ℕ) → NoneBefore words from n → ((j : ℕ) → j < m → get_or words (n + j) 0 ≡ 0) → NoneBefore words from (n + m)
NoneBefore-more words from n m none zeros k f l = elim (cases_lt (k / 64) n) [
  | inl lower ↦ none k f lower
  | inr behind ↦
      let at : n + (k / 64 - n) ≡ k / 64 = omega arith in
      ap (λ w. eqb (bit_at w (k % 64)) 1) (ap (λ i. get_or words i 0) (sym at) ∙ zeros (k / 64 - n) (omega arith)) ∙ ap (λ b. eqb b 1) (bit_at-zero (k % 64))
]

-- no word holds a bit where there is none
pub NoneFrom-words : (words : List ℕ) (from n : ℕ) → length words ≤ n → NoneBefore words from n → NoneFrom (has words) from
NoneFrom-words words from n long none k f = elim (cases_lt (k / 64) n) [
  | inl lower ↦ none k f lower
  | inr behind ↦ ap (λ w. eqb (bit_at w (k % 64)) 1) (get_or-eq_default words 0 (omega arith)) ∙ ap (λ b. eqb b 1) (bit_at-zero (k % 64))
]

-- the first word that is not zero
abbrev pub nonzero : ℕ → Bool
nonzero word = not (eqb word 0)

pub zeros-before : (words : List ℕ) (n : ℕ) → n ≤ position_or_len nonzero words → (j : ℕ) → j < n → get_or words j 0 ≡ 0
zeros-before words n h j l = eqb-true (get_or words j 0) 0 (not-false (eqb (get_or words j 0) 0) (fails_before_first nonzero words j 0 (omega arith)))

pub zeros-none : (words : List ℕ) → position nonzero words ≡ None → (j : ℕ) → j < length words → get_or words j 0 ≡ 0
zeros-none words h = zeros-before words (length words) (elim (cases_Bool (ltb (position_or_len nonzero words) (length words))) [
  | inl found ↦ let both : Some (position_or_len nonzero words) ≡ None = sym (cond-true (ltb (position_or_len nonzero words) (length words)) (Some (position_or_len nonzero words)) None found) ∙ h in cc
  | inr none ↦ ltb-false (position_or_len nonzero words) (length words) none
])

pub zeros-some : (words : List ℕ) (i : ℕ) → position nonzero words ≡ Some i → (j : ℕ) → j < i → get_or words j 0 ≡ 0
zeros-some words i h j l = eqb-true (get_or words j 0) 0 (not-false (eqb (get_or words j 0) 0) ((position-Some nonzero words i 0 h).2 j l))

-- the words from one on
pub words_behind : (items words : List ℕ) (n : ℕ) → items ≡ words → take (length items - n) (drop n items) ≡ drop n words
words_behind items words n is =
    let long : length (drop n items) ≡ length items - n = length-drop n items in
    take_all (length items - n) (drop n items) (omega arith) ∙ ap (drop n) is

pub NoneBefore-behind : (words : List ℕ) (from n m : ℕ) → NoneBefore words from n → ((j : ℕ) → j < m → get_or (drop n words) j 0 ≡ 0) → NoneBefore words from (n + m)
NoneBefore-behind words from n m none zeros = NoneBefore-more words from n m none (λ j l. sym (get_or-drop n words j 0) ∙ zeros j l)

-- the first word after this one that is not zero is not
pub found-some : (words : List ℕ) (i : ℕ) → position nonzero words ≡ Some i → 0 < get_or words i 0
found-some words i h =
    let is = position-Some nonzero words i 0 h in
    let some : eqb (get_or words i 0) 0 ≡ false = not-true (eqb (get_or words i 0) 0) is.1 in
    let ne : get_or words i 0 ≡ 0 → ⊥ = eqb-false (get_or words i 0) 0 some in
    omega arith
