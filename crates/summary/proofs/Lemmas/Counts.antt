-- Steps of counts over a range of addresses.
use Rattle.std.proofs.Common.{◌≡◌, ℕ, ◌+◌, ◌-◌, ◌≤◌, Bool, true, false, cond, [], ◌∷◌, refl, sym, ◌∙◌, ap, arith, add-zero}
use Rattle.std.proofs.lemmas.Bool.{cond-true, cond-false}
use Rattle.std.proofs.lemmas.List.Sums.{sum_by-append}
use Rattle.std.specs.Prelude.{count_by}
use Rattle.std.specs.List.{range_with_len}
use Rattle.summary.proofs.Lemmas.Addresses.{range_with_len-add}

count_by-more : (p : ℕ → Bool) (from q : ℕ) → from ≤ q → count_by p (range_with_len from (q + 1 - from)) ≡ count_by p (range_with_len from (q - from)) + cond (p q) 1 0
count_by-more p from q h =
    let n : ℕ = q - from in
    let e : q + 1 - from ≡ n + 1 = omega arith in
    let at : from + n ≡ q = omega arith in
    let last : count_by p (q ∷ []) ≡ cond (p q) 1 0 = one (p q) in
    ap (λ m. count_by p (range_with_len from m)) e
    ∙ ap (count_by p) (range_with_len-add from n 1)
    ∙ sum_by-append (λ x. cond (p x) 1 0) (range_with_len from n) (range_with_len (from + n) 1)
    ∙ ap (λ c. count_by p (range_with_len from n) + count_by p (c ∷ [])) at
    ∙ ap (λ c. count_by p (range_with_len from n) + c) last
  where
    one : (b : Bool) → 0 + cond b 1 0 ≡ cond b 1 0
    one true = refl
    one false = refl

pub count_by-more_yes : (p : ℕ → Bool) (from q : ℕ) → from ≤ q → p q ≡ true → count_by p (range_with_len from (q + 1 - from)) ≡ count_by p (range_with_len from (q - from)) + 1
count_by-more_yes p from q h e = count_by-more p from q h ∙ ap (λ c. count_by p (range_with_len from (q - from)) + c) (cond-true (p q) 1 0 e)

pub count_by-more_no : (p : ℕ → Bool) (from q : ℕ) → from ≤ q → p q ≡ false → count_by p (range_with_len from (q + 1 - from)) ≡ count_by p (range_with_len from (q - from))
count_by-more_no p from q h e = count_by-more p from q h ∙ ap (λ c. count_by p (range_with_len from (q - from)) + c) (cond-false (p q) 1 0 e) ∙ add-zero (count_by p (range_with_len from (q - from)))

-- the same from 0 on
pub count_by-below_yes : (p : ℕ → Bool) (q : ℕ) → p q ≡ true → count_by p (range_with_len 0 (q + 1)) ≡ count_by p (range_with_len 0 q) + 1
count_by-below_yes p q e =
    let a : q + 1 - 0 ≡ q + 1 = omega arith in
    let b : q - 0 ≡ q = omega arith in
    ap (λ n. count_by p (range_with_len 0 n)) (sym a) ∙ count_by-more_yes p 0 q (omega arith) e ∙ ap (λ n. count_by p (range_with_len 0 n) + 1) b

pub count_by-below_no : (p : ℕ → Bool) (q : ℕ) → p q ≡ false → count_by p (range_with_len 0 (q + 1)) ≡ count_by p (range_with_len 0 q)
count_by-below_no p q e =
    let a : q + 1 - 0 ≡ q + 1 = omega arith in
    let b : q - 0 ≡ q = omega arith in
    ap (λ n. count_by p (range_with_len 0 n)) (sym a) ∙ count_by-more_no p 0 q (omega arith) e ∙ ap (λ n. count_by p (range_with_len 0 n)) b
