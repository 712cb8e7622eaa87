-- The first bit from a place on that is not set.
use Rattle.std.proofs.Common.{◌≡◌, ℕ, zero, suc, ◌+◌, ◌-◌, ◌*◌, ◌/◌, ◌%◌, ◌≤◌, ◌<◌, inl, inr, Bool, true, false, ◌&&◌, not, eqb, leb, List, length, get_or, drop, Some, None, refl, sym, ◌∙◌, ap, arith, bit_and}
use Rattle.std.specs.Int.{bit_at, w64}
use Rattle.std.proofs.lemmas.Bool.{true≢false, cases_Bool, cases_lt, and_parts, leb-true, le-leb, eqb-true, eqb-false, ltb-false, not-false, not-true, cond-true}
use Rattle.std.proofs.lemmas.List.{get_or-drop}
use Rattle.std.proofs.lemmas.List.Sums.{fails_before_first}
use Rattle.std.proofs.lemmas.List.Quantifiers.{position-Some}
use Rattle.std.specs.List.{position, position_or_len}
use Rattle.std.proofs.Math.ListN.{get_or-eq_default}
use Rattle.std.proofs.lemmas.Nat.Bits.{bit_at_and, bit_at_not, bit_at-lt, bit_at-zero}
use Rattle.object_heap.specs.Bits.{has, IsFirstFrom}
use Rattle.object_heap.proofs.Lemmas.Places.{same_tests, min-is_one}
use Rattle.object_heap.proofs.Lemmas.Masks.{low_mask, low_mask-bit}

-- a bit is not in the set
abbrev pub absent : List ℕ → ℕ → Bool
absent words k = not (has words k)

-- rest has a bit for each bit of the word with index i that is not set and lies at `from` or after it
abbrev pub IsLack : List ℕ → ℕ → ℕ → ℕ → Type 0
IsLack words from i rest = (j : ℕ) → j < 64 → eqb (bit_at rest j) 1 ≡ (absent words (64 * i + j) && leb from (64 * i + j))

-- each bit from `from` on is set in the words before the one with index i
abbrev pub AllBefore : List ℕ → ℕ → ℕ → Type 0
AllBefore words from i = (k : ℕ) → from ≤ k → k / 64 < i → absent words k ≡ false

left_fails : (a b : Bool) → (a && b) ≡ false → b ≡ true → a ≡ false
left_fails true b h k = absurd (true≢false (sym k ∙ h))
left_fails false b h k = refl

pub first-in_word : (words : List ℕ) (from i rest place : ℕ) → IsLack words from i rest → AllBefore words from i → place < 64 → bit_at rest place ≡ 1 → ((j : ℕ) → j < place → bit_at rest j ≡ 0) → IsFirstFrom (absent words) from (64 * i + place)
first-in_word words from i rest place is all small set least =
    let both = and_parts (absent words (64 * i + place)) (leb from (64 * i + place)) (sym (is place small) ∙ ap (λ n. eqb n 1) set) in
    record {
      behind = leb-true from (64 * i + place) both.1;
      passes = both.0;
      least = λ k f b. before k f b;
    }
  where
    before : (k : ℕ) → from ≤ k → k < 64 * i + place → absent words k ≡ false
    before k f b = elim (cases_lt (k / 64) i) [
      | inl lower ↦ all k f lower
      | inr here ↦
          let at : 64 * i + k % 64 ≡ k = omega arith in
          let fails : (absent words k && leb from k) ≡ false = ap (λ n. absent words n && leb from n) (sym at) ∙ sym (is (k % 64) (omega arith)) ∙ ap (λ n. eqb n 1) (least (k % 64) (omega arith)) in
          left_fails (absent words k) (leb from k) fails (le-leb from k f)
    ]

-- a bit that is turned over
turned : (n : ℕ) → n < 2 → eqb (1 - n) 1 ≡ not (eqb n 1)
turned zero h = refl
turned (suc zero) h = refl
turned (suc (suc n)) h = let no : ⊥ = omega arith in absurd no

-- back has the bits that word has not
abbrev pub IsBack : ℕ → ℕ → Type 0
IsBack word back = (j : ℕ) → j < 64 → bit_at back j ≡ 1 - bit_at word j

bit-turned : (word back j : ℕ) → IsBack word back → j < 64 → eqb (bit_at back j) 1 ≡ not (eqb (bit_at word j) 1)
bit-turned word back j h l = ap (λ n. eqb n 1) (h j l) ∙ turned (bit_at word j) (bit_at-lt word j)

-- the bits of the first word from `from` on
pub lack-first : (words : List ℕ) (from word back : ℕ) → IsBack word back → word ≡ get_or words (from / 64) 0 → IsLack words from (from / 64) (bit_and back (low_mask (from % 64)))
lack-first words from word back turn is j l =
    let q : ℕ = from / 64 in
    let e : (64 * q + j) / 64 ≡ q = omega arith in
    let f : (64 * q + j) % 64 ≡ j = omega arith in
    ap (λ n. eqb n 1) (bit_at_and back (low_mask (from % 64)) j)
    ∙ min-is_one (bit_at back j) (bit_at (low_mask (from % 64)) j) (bit_at-lt back j) (bit_at-lt (low_mask (from % 64)) j)
    ∙ ap (λ b. eqb (bit_at back j) 1 && b) (low_mask-bit (from % 64) j (omega arith) l ∙ same_place)
    ∙ ap (λ b. b && leb from (64 * q + j)) (bit-turned word back j turn l)
    ∙ ap (λ n. not (eqb (bit_at n j) 1) && leb from (64 * q + j)) (is ∙ ap (λ n. get_or words n 0) (sym e))
    ∙ ap (λ n. not (eqb (bit_at (get_or words ((64 * q + j) / 64) 0) n) 1) && leb from (64 * q + j)) (sym f)
  where
    same_place : leb (from % 64) j ≡ leb from (64 * (from / 64) + j)
    same_place = same_tests (leb (from % 64) j) (leb from (64 * (from / 64) + j))
        (λ h. let a : from % 64 ≤ j = leb-true (from % 64) j h in le-leb from (64 * (from / 64) + j) (omega arith))
        (λ h. let a : from ≤ 64 * (from / 64) + j = leb-true from (64 * (from / 64) + j) h in le-leb (from % 64) j (omega arith))

-- a word after the first
pub lack-behind : (words : List ℕ) (from i word back : ℕ) → IsBack word back → from / 64 < i → word ≡ get_or words i 0 → IsLack words from i back
lack-behind words from i word back turn behind is j l =
    let e : (64 * i + j) / 64 ≡ i = omega arith in
    let f : (64 * i + j) % 64 ≡ j = omega arith in
    bit-turned word back j turn l
    ∙ ap (λ n. not (eqb (bit_at n j) 1)) (is ∙ ap (λ n. get_or words n 0) (sym e))
    ∙ ap (λ n. not (eqb (bit_at (get_or words ((64 * i + j) / 64) 0) n) 1)) (sym f)
    ∙ passes (absent words (64 * i + j)) (leb from (64 * i + j)) (le-leb from (64 * i + j) (omega arith))
  where
    passes : (a b : Bool) → b ≡ true → a ≡ (a && b)
    passes true b h = sym h
    passes false b h = refl

pub all-first : (words : List ℕ) (from : ℕ) → AllBefore words from (from / 64)
all-first words from k f l = let no : ⊥ = omega arith in absurd no

pub all-second : (words : List ℕ) (from rest : ℕ) → IsLack words from (from / 64) rest → rest ≡ 0 → AllBefore words from (from / 64 + 1)
all-second words from rest is none k f l =
    let at : 64 * (from / 64) + k % 64 ≡ k = omega arith in
    let fails : (absent words k && leb from k) ≡ false = ap (λ n. absent words n && leb from n) (sym at) ∙ sym (is (k % 64) (omega arith)) ∙ ap (λ n. eqb (bit_at n (k % 64)) 1) none ∙ ap (λ n. eqb n 1) (bit_at-zero (k % 64)) in
    left_fails (absent words k) (leb from k) fails (le-leb from k f)

full-bit : (j : ℕ) → j < 64 → eqb (bit_at 18446744073709551615 j) 1 ≡ true
full-bit j l = ap (λ n. eqb n 1) (bit_at_not w64 0 j (omega arith) l ∙ ap (λ n. 1 - n) (bit_at-zero j))

pub all-behind : (words : List ℕ) (from n m : ℕ) → AllBefore words from n → ((j : ℕ) → j < m → get_or (drop n words) j 0 ≡ 18446744073709551615) → AllBefore words from (n + m)
all-behind words from n m all full k f l = elim (cases_lt (k / 64) n) [
  | inl lower ↦ all k f lower
  | inr behind ↦
      let at : n + (k / 64 - n) ≡ k / 64 = omega arith in
      let word : get_or words (k / 64) 0 ≡ 18446744073709551615 = ap (λ i. get_or words i 0) (sym at) ∙ sym (get_or-drop n words (k / 64 - n) 0) ∙ full (k / 64 - n) (omega arith) in
      ap (λ w. not (eqb (bit_at w (k % 64)) 1)) word ∙ ap not (full-bit (k % 64) (omega arith))
]

-- past the words no bit is set
pub absent-past : (words : List ℕ) (k : ℕ) → length words ≤ k / 64 → absent words k ≡ true
absent-past words k long = ap (λ w. not (eqb (bit_at w (k % 64)) 1)) (get_or-eq_default words 0 long) ∙ ap (λ b. not (eqb b 1)) (bit_at-zero (k % 64))

-- the first word that is not full
abbrev pub not_full : ℕ → Bool
not_full word = not (eqb word 18446744073709551615)

pub full-before : (words : List ℕ) (n : ℕ) → n ≤ position_or_len not_full words → (j : ℕ) → j < n → get_or words j 0 ≡ 18446744073709551615
full-before words n h j l = eqb-true (get_or words j 0) 18446744073709551615 (not-false (eqb (get_or words j 0) 18446744073709551615) (fails_before_first not_full words j 0 (omega arith)))

pub full-none : (words : List ℕ) → position not_full words ≡ None → (j : ℕ) → j < length words → get_or words j 0 ≡ 18446744073709551615
full-none words h = full-before words (length words) (elim (cases_Bool (Rattle.std.proofs.Common.ltb (position_or_len not_full words) (length words))) [
  | inl found ↦ let both : Some (position_or_len not_full words) ≡ None = sym (cond-true (Rattle.std.proofs.Common.ltb (position_or_len not_full words) (length words)) (Some (position_or_len not_full words)) None found) ∙ h in cc
  | inr none ↦ ltb-false (position_or_len not_full words) (length words) none
])

pub full-some : (words : List ℕ) (i : ℕ) → position not_full words ≡ Some i → (j : ℕ) → j < i → get_or words j 0 ≡ 18446744073709551615
full-some words i h j l = eqb-true (get_or words j 0) 18446744073709551615 (not-false (eqb (get_or words j 0) 18446744073709551615) ((position-Some not_full words i 0 h).2 j l))

pub found-lack : (words : List ℕ) (i : ℕ) → position not_full words ≡ Some i → (get_or words i 0 ≡ 18446744073709551615 → ⊥) × (i < length words)
found-lack words i h =
    let is = position-Some not_full words i 0 h in
    (eqb-false (get_or words i 0) 18446744073709551615 (not-true (eqb (get_or words i 0) 18446744073709551615) is.1), is.0)

-- from a place after the words on, none is set
pub first-past : (words : List ℕ) (from to : ℕ) → length words ≤ to / 64 → from ≤ to → ((k : ℕ) → from ≤ k → k < to → absent words k ≡ false) → IsFirstFrom (absent words) from to
first-past words from to long up all = record { behind = up; passes = absent-past words to long; least = all }
