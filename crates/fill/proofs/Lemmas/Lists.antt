-- Ranges of numbers, and the numbers in them that pass a test.
use Rattle.std.proofs.Common.{◌≡◌, ℕ, zero, suc, ◌+◌, ◌-◌, ◌≤◌, ◌<◌, Bool, true, false, cond, [], ◌∷◌, ◌++◌, length, refl, sym, ◌∙◌, ap, arith, add-zero, zero-add}
use Rattle.std.proofs.lemmas.Bool.{cond-true, cond-false}
use Rattle.std.proofs.lemmas.List.Sums.{sum_by-append, length-filter}
use Rattle.std.specs.Prelude.{count_by, filter}
use Rattle.std.specs.List.{range_with_len}

pub range_with_len-add : (b m n : ℕ) → range_with_len b (m + n) ≡ range_with_len b m ++ range_with_len (b + m) n
range_with_len-add b zero n = rw (zero-add n) (rw (add-zero b) refl)
range_with_len-add b (suc m) n =
    let e : suc m + n ≡ suc (m + n) = omega arith in
    let k : b + 1 + m ≡ b + suc m = omega arith in
    rw e (ap (λ xs. b ∷ xs) (range_with_len-add (b + 1) m n ∙ ap (λ c. range_with_len (b + 1) m ++ range_with_len c n) k))

pub filter-none : (t : ℕ → Bool) (b n : ℕ) → ((q : ℕ) → b ≤ q → q < b + n → t q ≡ false) → filter t (range_with_len b n) ≡ []
filter-none t b zero none = refl
filter-none t b (suc n) none =
    cond-false (t b) (b ∷ filter t (range_with_len (b + 1) n)) (filter t (range_with_len (b + 1) n)) (none b (omega arith) (omega arith))
    ∙ filter-none t (b + 1) n (λ q l m. none q (omega arith) (omega arith))

pub filter-first : (t : ℕ → Bool) (b n m : ℕ) → suc m ≡ n → t b ≡ true → filter t (range_with_len b n) ≡ b ∷ filter t (range_with_len (b + 1) m)
filter-first t b n m e passes = ap (λ k. filter t (range_with_len b k)) (sym e) ∙ cond-true (t b) (b ∷ filter t (range_with_len (b + 1) m)) (filter t (range_with_len (b + 1) m)) passes

pub count_by-none : (p : ℕ → Bool) (b n : ℕ) → ((q : ℕ) → b ≤ q → q < b + n → p q ≡ false) → count_by p (range_with_len b n) ≡ 0
count_by-none p b n none = sym (length-filter p (range_with_len b n)) ∙ ap length (filter-none p b n none)

pub count_by-more_yes : (p : ℕ → Bool) (from q : ℕ) → from ≤ q → p q ≡ true → count_by p (range_with_len from (q + 1 - from)) ≡ count_by p (range_with_len from (q - from)) + 1
count_by-more_yes p from q h passes =
    let n : ℕ = q - from in
    let e : q + 1 - from ≡ n + 1 = omega arith in
    let at : from + n ≡ q = omega arith in
    ap (λ m. count_by p (range_with_len from m)) e
    ∙ ap (count_by p) (range_with_len-add from n 1)
    ∙ sum_by-append (λ x. cond (p x) 1 0) (range_with_len from n) (range_with_len (from + n) 1)
    ∙ ap (λ c. count_by p (range_with_len from n) + count_by p (c ∷ [])) at
    ∙ ap (λ c. count_by p (range_with_len from n) + (0 + c)) (cond-true (p q) 1 0 passes)

pub same_Bool : (b c : Bool) → (b ≡ true → c ≡ true) → (c ≡ true → b ≡ true) → b ≡ c
same_Bool true c f g = sym (f refl)
same_Bool false true f g = g refl
same_Bool false false f g = refl
