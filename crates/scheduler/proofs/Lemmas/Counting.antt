-- Counts over a list.
use Rattle.std.proofs.Common.{◌≡◌, ℕ, zero, suc, ◌+◌, ◌<◌, ◌≤◌, Bool, true, false, cond, List, [], ◌∷◌, length, get_or, map, refl, sym, ◌∙◌, inl, inr, ◌⊎◌, arith}
use Rattle.std.specs.Prelude.{◌&&◌, count_by}
use Rattle.std.proofs.lemmas.Bool.{cases_Bool}
use Rattle.std.proofs.lemmas.List.Sums.{sum_by-cons}

-- a count of a longer list
pub count_by-cons : {X : Type 0} (p : X → Bool) (x : X) (xs : List X) → count_by p (x ∷ xs) ≡ cond {A = ℕ} (p x) 1 0 + count_by p xs
count_by-cons p x xs = sum_by-cons (λ y. cond (p y) 1 0) x xs

-- two tests that agree on each element count the same
pub count_by_same : {X : Type 0} (p q : X → Bool) (xs : List X) → ((k : ℕ) (d : X) → k < length xs → p (get_or xs k d) ≡ q (get_or xs k d)) → count_by p xs ≡ count_by q xs
count_by_same p q [] same = refl
count_by_same p q (x ∷ xs) same =
    let head : p x ≡ q x = same 0 x (omega arith) in
    let tail : count_by p xs ≡ count_by q xs = count_by_same p q xs (λ k d lt. same (suc k) d (omega arith)) in
    count_by-cons p x xs ∙ (rw (head, tail) (sym (count_by-cons q x xs)))

-- one element fewer passes
pub count_by_one_less : {X : Type 0} (p q : X → Bool) (xs : List X) (at : ℕ) (e : X) → at < length xs → p (get_or xs at e) ≡ true → q (get_or xs at e) ≡ false
    → ((k : ℕ) (d : X) → k < length xs → (k ≡ at → ⊥) → p (get_or xs k d) ≡ q (get_or xs k d)) → count_by p xs ≡ count_by q xs + 1
count_by_one_less p q [] at e lt passes fails same = absurd (omega arith)
count_by_one_less p q (x ∷ xs) zero e lt passes fails same =
    let tail : count_by p xs ≡ count_by q xs = count_by_same p q xs (λ k d lt'. same (suc k) d (omega arith) (λ z. omega arith)) in
    let l : count_by p (x ∷ xs) ≡ 1 + count_by p xs = count_by-cons p x xs ∙ (rw passes refl) in
    let r : count_by q (x ∷ xs) ≡ 0 + count_by q xs = count_by-cons q x xs ∙ (rw fails refl) in
    omega arith
count_by_one_less p q (x ∷ xs) (suc at) e lt passes fails same =
    let head : p x ≡ q x = same 0 x (omega arith) (λ z. omega arith) in
    let tail : count_by p xs ≡ count_by q xs + 1 = count_by_one_less p q xs at e (omega arith) passes fails (λ k d lt' other. same (suc k) d (omega arith) (λ z. other (omega arith))) in
    let l : count_by p (x ∷ xs) ≡ cond {A = ℕ} (q x) 1 0 + count_by p xs = count_by-cons p x xs ∙ (rw head refl) in
    let r : count_by q (x ∷ xs) ≡ cond {A = ℕ} (q x) 1 0 + count_by q xs = count_by-cons q x xs in
    omega arith

-- where nothing is counted, no element passes
pub count_by_zero : {X : Type 0} (p : X → Bool) (xs : List X) (k : ℕ) (d : X) → count_by p xs ≡ 0 → k < length xs → p (get_or xs k d) ≡ false
count_by_zero p [] k d none lt = absurd (omega arith)
count_by_zero p (x ∷ xs) zero d none lt = go (cases_Bool (p x))
  where
    go : (p x ≡ true) ⊎ (p x ≡ false) → p x ≡ false
    go (inr e) = e
    go (inl e) = absurd (let l : count_by p (x ∷ xs) ≡ 1 + count_by p xs = count_by-cons p x xs ∙ (rw e refl) in omega arith)
count_by_zero p (x ∷ xs) (suc k) d none lt =
    count_by_zero p xs k d (let l : count_by p (x ∷ xs) ≡ cond {A = ℕ} (p x) 1 0 + count_by p xs = count_by-cons p x xs in omega arith) (omega arith)

-- where no element passes, nothing is counted
pub count_by_none : {X : Type 0} (p : X → Bool) (xs : List X) → ((k : ℕ) (d : X) → k < length xs → p (get_or xs k d) ≡ false) → count_by p xs ≡ 0
count_by_none p [] none = refl
count_by_none p (x ∷ xs) none =
    let head : p x ≡ false = none 0 x (omega arith) in
    let tail : count_by p xs ≡ 0 = count_by_none p xs (λ k d lt. none (suc k) d (omega arith)) in
    count_by-cons p x xs ∙ (rw (head, tail) refl)

-- a narrower test counts no more
pub count_by_fewer : {X : Type 0} (p q : X → Bool) (xs : List X) → ((x : X) → p x ≡ true → q x ≡ true) → count_by p xs ≤ count_by q xs
count_by_fewer p q [] narrower = omega arith
count_by_fewer p q (x ∷ xs) narrower = go (cases_Bool (p x)) (count_by_fewer p q xs narrower)
  where
    go : (p x ≡ true) ⊎ (p x ≡ false) → count_by p xs ≤ count_by q xs → count_by p (x ∷ xs) ≤ count_by q (x ∷ xs)
    go (inl e) tail =
        let l : count_by p (x ∷ xs) ≡ 1 + count_by p xs = count_by-cons p x xs ∙ (rw e refl) in
        let r : count_by q (x ∷ xs) ≡ 1 + count_by q xs = count_by-cons q x xs ∙ (rw (narrower x e) refl) in
        omega arith
    go (inr e) tail =
        let l : count_by p (x ∷ xs) ≡ 0 + count_by p xs = count_by-cons p x xs ∙ (rw e refl) in
        let r : count_by q (x ∷ xs) ≡ cond {A = ℕ} (q x) 1 0 + count_by q xs = count_by-cons q x xs in
        omega arith

pub count_by-map : {X Y : Type 0} (p : Y → Bool) (f : X → Y) (xs : List X) → count_by p (map f xs) ≡ count_by (λ x. p (f x)) xs
count_by-map p f [] = refl
count_by-map p f (x ∷ xs) = count_by-cons p (f x) (map f xs) ∙ (rw (count_by-map p f xs) (sym (count_by-cons (λ y. p (f y)) x xs)))

pub and_true : (b : Bool) → (b && true) ≡ b
and_true true = refl
and_true false = refl
