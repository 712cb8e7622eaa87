-- Opaque objects with which nothing is wrong make a valid image.
use Rattle.std.proofs.Common.{◌≡◌, ℕ, zero, suc, ◌+◌, ◌-◌, ◌≤◌, ◌<◌, Bool, true, false, ◌&&◌, ◌||◌, List, [], ◌∷◌, length, get_or, inl, inr, refl, sym, ◌∙◌, ap, subst, arith, eqb, ltb, leb}
use Rattle.std.specs.Prelude.{None}
use Rattle.std.specs.Option.{is_some}
use Rattle.std.proofs.lemmas.Bool.{cases_lt, cases_Bool, cond-true, cond-false, true≢false, or_parts, eq-eqb, eqb-true, eqb-false, leb-false, ltb-false, lt-ltb}
use Rattle.image_streams.specs.declared.fault.Fault.{Fault}
use Rattle.heap_image.specs.ImageText.{fault_if, first_some}
use Rattle.object_heap.specs.Header.{object_header, size_of, references_of, kind_of}
use Rattle.object_heap.specs.ObjectFaults.{is_misplaced}
use Rattle.mark_bitmap.specs.OpaqueObjects.{size_listed, header_if_any, AreApart}

-- none of three faults
none_of_three : (a b c : Bool) (f g h : Fault) → first_some (fault_if a f ∷ fault_if b g ∷ fault_if c h ∷ []) ≡ None → (a ≡ false) × ((b ≡ false) × (c ≡ false))
none_of_three true b c f g h e = absurd (true≢false (ap is_some e))
none_of_three false true c f g h e = absurd (true≢false (ap is_some e))
none_of_three false false true f g h e = absurd (true≢false (ap is_some e))
none_of_three false false false f g h e = (refl, (refl, refl))

-- a test that is made only behind the first object
behind : (i : ℕ) (b : Bool) → 0 < i → (ltb 0 i && b) ≡ false → b ≡ false
behind i b some e = sym (ap (λ t. t && b) (lt-ltb 0 i some)) ∙ e

module _ (words : ℕ) (live sizes : List ℕ) (none : AreApart words live sizes) where
  abbrev at : ℕ → ℕ
  at i = get_or live i 0

  abbrev size : ℕ → ℕ
  size i = get_or sizes i 0

  fault_free : (i : ℕ) → i < length live → (is_misplaced words live i ≡ false) × ((((eqb (size i) 0) || ltb words (at i + size i)) ≡ false) × ((ltb 0 i && ltb (at i) (at (i - 1) + size (i - 1))) ≡ false))
  fault_free i l = none_of_three (is_misplaced words live i) (eqb (size i) 0 || ltb words (at i + size i)) (ltb 0 i && ltb (at i) (at (i - 1) + size (i - 1))) _ _ _ (none i l)

  pub below : (i : ℕ) → i < length live → at i < words
  below i l = leb-false words (at i) (or_parts (leb words (at i)) (ltb 0 i && leb (at i) (at (i - 1))) (fault_free i l).0).0

  rises : (i : ℕ) → 0 < i → i < length live → at (i - 1) < at i
  rises i some l = leb-false (at i) (at (i - 1)) (behind i (leb (at i) (at (i - 1))) some (or_parts (leb words (at i)) (ltb 0 i && leb (at i) (at (i - 1))) (fault_free i l).0).1)

  pub some_size : (i : ℕ) → i < length live → 0 < size i
  some_size i l =
      let no = eqb-false (size i) 0 (or_parts (eqb (size i) 0) (ltb words (at i + size i)) (fault_free i l).1.0).0 in
      elim (cases_lt 0 (size i)) [
        | inl some ↦ some
        | inr zero_size ↦ absurd (no (omega arith))
      ]

  pub inside : (i : ℕ) → i < length live → at i + size i ≤ words
  inside i l = ltb-false words (at i + size i) (or_parts (eqb (size i) 0) (ltb words (at i + size i)) (fault_free i l).1.0).1

  pub ends_before : (i : ℕ) → i + 1 < length live → at i + size i ≤ at (i + 1)
  ends_before i l =
      let one : i + 1 - 1 ≡ i = omega arith in
      let apart = ltb-false (at (i + 1)) (at (i + 1 - 1) + size (i + 1 - 1)) (behind (i + 1) (ltb (at (i + 1)) (at (i + 1 - 1) + size (i + 1 - 1))) (omega arith) (fault_free (i + 1) l).1.1) in
      subst (λ k. at k + size k ≤ at (i + 1)) one apart

  pub ascends : (j k : ℕ) → j < k → k < length live → at j < at k
  ascends j zero l inside = let no : ⊥ = omega arith in absurd no
  ascends j (suc k) l within = elim (cases_lt j k) [
    | inl before ↦ let one = ascends j k before (omega arith) in let two = rises (suc k) (omega arith) within in let same : suc k - 1 ≡ k = omega arith in omega (arith, one, two, ap at same)
    | inr last ↦ let same : suc k - 1 ≡ j = omega arith in subst (λ n. at n < at (suc k)) same (rises (suc k) (omega arith) within)
  ]

  -- the i-th of ascending addresses is at least i
  high : (i : ℕ) → i < length live → i ≤ at i
  high zero l = omega arith
  high (suc i) l = let before = high i (omega arith) in let up = ascends i (suc i) (omega arith) l in omega arith

  pub few : length live ≤ words
  few = elim (cases_lt 0 (length live)) [
    | inl some ↦ let last = high (length live - 1) (omega arith) in let low = below (length live - 1) (omega arith) in omega arith
    | inr empty ↦ omega arith
  ]

-- the size that is listed for an object
pub size_at_object : (live sizes : List ℕ) → ((j k : ℕ) → j < k → k < length live → get_or live j 0 < get_or live k 0) → length live ≤ length sizes
    → (i : ℕ) → i < length live → size_listed live sizes (get_or live i 0) ≡ get_or sizes i 0
size_at_object [] sizes up long i l = let no : ⊥ = omega arith in absurd no
size_at_object (b ∷ live) [] up long i l = let no : ⊥ = omega arith in absurd no
size_at_object (b ∷ live) (n ∷ sizes) up long zero l = cond-true (eqb b b) n (size_listed live sizes b) (eq-eqb b b refl)
size_at_object (b ∷ live) (n ∷ sizes) up long (suc i) l =
    let a : ℕ = get_or live i 0 in
    let above : b < a = up 0 (suc i) (omega arith) l in
    let other : eqb a b ≡ false = elim (cases_Bool (eqb a b)) [
      | inl same ↦ let e = eqb-true a b same in let no : ⊥ = omega arith in absurd no
      | inr apart ↦ apart
    ] in
    cond-false (eqb a b) n (size_listed live sizes a) other
    ∙ size_at_object live sizes (λ j k lt inside. up (suc j) (suc k) (omega arith) (omega arith)) (omega arith) i (omega arith)

-- all sizes that are listed are small
pub listed_fits : (live sizes : List ℕ) → ((i : ℕ) → get_or sizes i 0 < 4294967296) → (a : ℕ) → size_listed live sizes a < 4294967296
listed_fits [] sizes small a = omega arith
listed_fits (b ∷ live) [] small a = omega arith
listed_fits (b ∷ live) (n ∷ sizes) small a = elim (cases_Bool (eqb a b)) [
  | inl same ↦ subst (λ s. s < 4294967296) (sym (cond-true (eqb a b) n (size_listed live sizes a) same)) (small 0)
  | inr other ↦ subst (λ s. s < 4294967296) (sym (cond-false (eqb a b) n (size_listed live sizes a) other)) (listed_fits live sizes (λ i. small (suc i)) a)
]

-- headers
pub header_fits : (n : ℕ) → n < 4294967296 → header_if_any n < 18446744073709551616
header_fits n small = elim (cases_Bool (eqb n 0)) [
  | inl none ↦ subst (λ w. w < 18446744073709551616) (sym (cond-true (eqb n 0) 0 (object_header n 0) none)) (omega arith)
  | inr some ↦ subst (λ w. w < 18446744073709551616) (sym (cond-false (eqb n 0) 0 (object_header n 0) some)) (omega arith)
]

header_is : (n : ℕ) → 0 < n → header_if_any n ≡ object_header n 0
header_is n some = cond-false (eqb n 0) 0 (object_header n 0) (elim (cases_Bool (eqb n 0)) [
  | inl none ↦ let e = eqb-true n 0 none in let no : ⊥ = omega arith in absurd no
  | inr other ↦ other
])

pub kind_is : (n : ℕ) → 0 < n → n < 4294967296 → kind_of (header_if_any n) ≡ 1
kind_is n some small = ap kind_of (header_is n some) ∙ omega arith

pub size_is : (n : ℕ) → 0 < n → n < 4294967296 → size_of (header_if_any n) ≡ n
size_is n some small = ap size_of (header_is n some) ∙ omega arith

pub references_are : (n : ℕ) → 0 < n → n < 4294967296 → references_of (header_if_any n) ≡ 0
references_are n some small = ap references_of (header_is n some) ∙ omega arith
