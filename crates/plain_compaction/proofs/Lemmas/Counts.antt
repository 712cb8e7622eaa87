-- Counts over ranges of addresses, and what a list is by its elements.
use Rattle.std.proofs.Common.{◌≡◌, ℕ, zero, suc, ◌+◌, ◌-◌, ◌≤◌, ◌<◌, Bool, true, false, cond, List, length, get_or, refl, sym, ◌∙◌, ap, arith, add-zero}
use Rattle.std.proofs.lemmas.Bool.{cond-true, cond-false}
use Rattle.std.proofs.lemmas.List.{map-id, ext_get_or}
use Rattle.std.proofs.lemmas.List.FromFn.{get_or-map-range_with_len, length-map-range_with_len, sum_by-map-range_with_len_more}
use Rattle.std.specs.Prelude.{count_by, map}
use Rattle.std.specs.List.{range_with_len}

-- one address more
count_by-last : (p : ℕ → Bool) (b n : ℕ) → count_by p (range_with_len b (n + 1)) ≡ count_by p (range_with_len b n) + cond (p (b + n)) 1 0
count_by-last p b n =
    ap (count_by p) (sym (map-id (range_with_len b (n + 1))))
    ∙ sum_by-map-range_with_len_more (λ q. cond (p q) 1 0) (λ q. q) b n (b + n) refl
    ∙ ap (λ xs. count_by p xs + cond (p (b + n)) 1 0) (map-id (range_with_len b n))

count_by-more : (p : ℕ → Bool) (from q : ℕ) → from ≤ q → count_by p (range_with_len from (q + 1 - from)) ≡ count_by p (range_with_len from (q - from)) + cond (p q) 1 0
count_by-more p from q h =
    let n : ℕ = q - from in
    let e : q + 1 - from ≡ n + 1 = omega arith in
    let at : from + n ≡ q = omega arith in
    ap (λ m. count_by p (range_with_len from m)) e ∙ count_by-last p from n ∙ ap (λ c. count_by p (range_with_len from n) + cond (p c) 1 0) at

pub count_by-more_yes : (p : ℕ → Bool) (from q : ℕ) → from ≤ q → p q ≡ true → count_by p (range_with_len from (q + 1 - from)) ≡ count_by p (range_with_len from (q - from)) + 1
count_by-more_yes p from q h e = count_by-more p from q h ∙ ap (λ c. count_by p (range_with_len from (q - from)) + c) (cond-true (p q) 1 0 e)

pub count_by-more_no : (p : ℕ → Bool) (from q : ℕ) → from ≤ q → p q ≡ false → count_by p (range_with_len from (q + 1 - from)) ≡ count_by p (range_with_len from (q - from))
count_by-more_no p from q h e = count_by-more p from q h ∙ ap (λ c. count_by p (range_with_len from (q - from)) + c) (cond-false (p q) 1 0 e) ∙ add-zero (count_by p (range_with_len from (q - from)))

pub count_by-parts : (p : ℕ → Bool) (b m n : ℕ) → count_by p (range_with_len b (m + n)) ≡ count_by p (range_with_len b m) + count_by p (range_with_len (b + m) n)
count_by-parts p b m zero =
    let none : count_by p (range_with_len (b + m) 0) ≡ 0 = refl in
    let e : m + 0 ≡ m = omega arith in
    rw e (sym (add-zero (count_by p (range_with_len b m))))
count_by-parts p b m (suc n) =
    let e : m + suc n ≡ m + n + 1 = omega arith in
    let f : n + 1 ≡ suc n = omega arith in
    let at : b + (m + n) ≡ b + m + n = omega arith in
    let one = count_by-last p b (m + n) in
    let two = count_by-last p (b + m) n in
    let before = count_by-parts p b m n in
    let last : cond {A = ℕ} (p (b + (m + n))) 1 0 ≡ cond (p (b + m + n)) 1 0 = ap (λ q. cond (p q) 1 0) at in
    let all : count_by p (range_with_len b (m + n + 1)) ≡ count_by p (range_with_len b m) + count_by p (range_with_len (b + m) (n + 1)) = omega (arith, one, two, before, last) in
    ap (λ k. count_by p (range_with_len b k)) e ∙ all ∙ ap (λ k. count_by p (range_with_len b m) + count_by p (range_with_len (b + m) k)) f

pub map-from : (f : ℕ → ℕ) (xs : List ℕ) (b n : ℕ) → length xs ≡ n → ((k : ℕ) → k < n → get_or xs k 0 ≡ f (b + k)) → xs ≡ map f (range_with_len b n)
map-from f xs b n long each =
    let all = length-map-range_with_len f b n in
    ext_get_or 0 xs (map f (range_with_len b n)) (long ∙ sym all) (λ k l. let inside : k < n = omega arith in each k inside ∙ sym (get_or-map-range_with_len f b n k (b + k) 0 inside refl))
