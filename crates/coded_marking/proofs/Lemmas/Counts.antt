-- How many addresses a set lacks.
use Rattle.std.proofs.Common.{◌≡◌, ℕ, zero, suc, ◌+◌, ◌≤◌, ◌<◌, inl, inr, Bool, true, false, cond, not, List, ◌∷◌, refl, sym, ◌∙◌, ap, arith}
use Rattle.std.proofs.lemmas.Bool.{false≢true, cases_eq}
use Rattle.std.proofs.lemmas.List.Sums.{sum_by-cons}
use Rattle.std.specs.Prelude.{count_by}
use Rattle.std.specs.List.{range_with_len}
use Rattle.object_heap.specs.Bits.{has}
use Rattle.coded_marking.specs.Tracing.{absent}

count_by-cons : {X : Type 0} (p : X → Bool) (x : X) (xs : List X) → count_by p (x ∷ xs) ≡ cond (p x) 1 0 + count_by p xs
count_by-cons p x xs = sum_by-cons (λ y. cond (p y) 1 0) x xs

one_le : (x y : Bool) → (x ≡ true → y ≡ true) → cond {A = ℕ} x 1 0 ≤ cond {A = ℕ} y 1 0
one_le true true h = omega arith
one_le true false h = absurd (false≢true (h refl))
one_le false true h = omega arith
one_le false false h = omega arith

one_lt : (x y : Bool) → x ≡ false → y ≡ true → cond {A = ℕ} x 1 0 < cond {A = ℕ} y 1 0
one_lt true y e f = absurd (false≢true (sym e))
one_lt false true e f = omega arith
one_lt false false e f = absurd (false≢true f)

-- a test that passes fewer numbers
pub count_le : (p q : ℕ → Bool) (from n : ℕ) → ((a : ℕ) → q a ≡ true → p a ≡ true) → count_by q (range_with_len from n) ≤ count_by p (range_with_len from n)
count_le p q from zero h = omega arith
count_le p q from (suc n) h =
    let head_p = count_by-cons p from (range_with_len (from + 1) n) in
    let head_q = count_by-cons q from (range_with_len (from + 1) n) in
    let first = one_le (q from) (p from) (h from) in
    let rest = count_le p q (from + 1) n h in
    omega arith

pub count_lt : (p q : ℕ → Bool) (from n b : ℕ) → from ≤ b → b < from + n → p b ≡ true → q b ≡ false → ((a : ℕ) → q a ≡ true → p a ≡ true)
    → count_by q (range_with_len from n) < count_by p (range_with_len from n)
count_lt p q from zero b low high one none h = let never : ⊥ = omega arith in absurd never
count_lt p q from (suc n) b low high one none h =
    let head_p = count_by-cons p from (range_with_len (from + 1) n) in
    let head_q = count_by-cons q from (range_with_len (from + 1) n) in
    elim (cases_eq from b) [
      | inl here ↦
          let first = one_lt (q from) (p from) (ap q here ∙ none) (ap p here ∙ one) in
          let rest = count_le p q (from + 1) n h in
          omega arith
      | inr other ↦
          let first = one_le (q from) (p from) (h from) in
          let rest = count_lt p q (from + 1) n b (omega arith) (omega arith) one none h in
          omega arith
    ]

not_less : (x y : Bool) → (x ≡ true → y ≡ true) → not y ≡ true → not x ≡ true
not_less true true h n = n
not_less true false h n = absurd (false≢true (h refl))
not_less false y h n = refl

-- a set that grows lacks no more
pub absent_le : (words : ℕ) (bits new_bits : List ℕ) → ((a : ℕ) → has bits a ≡ true → has new_bits a ≡ true) → absent words new_bits ≤ absent words bits
absent_le words bits new_bits kept =
    count_le (λ a. not (has bits a)) (λ a. not (has new_bits a)) 0 words (λ a. not_less (has bits a) (has new_bits a) (kept a))

-- and fewer with one address more
pub absent_lt : (words b : ℕ) (bits new_bits : List ℕ) → b < words → has bits b ≡ false → has new_bits b ≡ true → ((a : ℕ) → has bits a ≡ true → has new_bits a ≡ true)
    → absent words new_bits < absent words bits
absent_lt words b bits new_bits low clear set kept =
    count_lt (λ a. not (has bits a)) (λ a. not (has new_bits a)) 0 words b (omega arith) (omega arith) (ap not clear) (ap not set) (λ a. not_less (has bits a) (has new_bits a) (kept a))
