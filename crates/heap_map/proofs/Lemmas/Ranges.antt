-- Counts over ranges of numbers, and texts of their numbers.
use Rattle.std.proofs.Common.{◌≡◌, ℕ, zero, suc, ◌+◌, ◌≤◌, ◌<◌, Bool, true, false, cond, List, ◌++◌, refl, sym, ◌∙◌, ap, arith, add-zero, append-nil, append_assoc}
use Rattle.std.proofs.lemmas.Bool.{cond-true, cond-false}
use Rattle.std.proofs.lemmas.List.Sums.{sum_by-cons}
use Rattle.std.specs.Prelude.{count_by, flat_map}
use Rattle.std.specs.List.{range_with_len}

pub count_by-same : (p r : ℕ → Bool) (b n : ℕ) → ((q : ℕ) → b ≤ q → q < b + n → p q ≡ r q) → count_by p (range_with_len b n) ≡ count_by r (range_with_len b n)
count_by-same p r b zero h = refl
count_by-same p r b (suc n) h =
    let one = sum_by-cons (λ q. cond {A = ℕ} (p q) 1 0) b (range_with_len (b + 1) n) in
    let two = sum_by-cons (λ q. cond {A = ℕ} (r q) 1 0) b (range_with_len (b + 1) n) in
    let first : cond {A = ℕ} (p b) 1 0 ≡ cond (r b) 1 0 = ap (λ c. cond {A = ℕ} c 1 0) (h b (omega arith) (omega arith)) in
    let more = count_by-same p r (b + 1) n (λ q l k. h q (omega arith) (omega arith)) in
    omega arith

pub count_by-all : (p : ℕ → Bool) (b n : ℕ) → ((q : ℕ) → b ≤ q → q < b + n → p q ≡ true) → count_by p (range_with_len b n) ≡ n
count_by-all p b zero h = refl
count_by-all p b (suc n) h =
    let one = sum_by-cons (λ q. cond {A = ℕ} (p q) 1 0) b (range_with_len (b + 1) n) in
    let first : cond {A = ℕ} (p b) 1 0 ≡ 1 = cond-true (p b) 1 0 (h b (omega arith) (omega arith)) in
    let more = count_by-all p (b + 1) n (λ q l k. h q (omega arith) (omega arith)) in
    omega arith

pub count_by-none : (p : ℕ → Bool) (b n : ℕ) → ((q : ℕ) → b ≤ q → q < b + n → p q ≡ false) → count_by p (range_with_len b n) ≡ 0
count_by-none p b zero h = refl
count_by-none p b (suc n) h =
    let one = sum_by-cons (λ q. cond {A = ℕ} (p q) 1 0) b (range_with_len (b + 1) n) in
    let first : cond {A = ℕ} (p b) 1 0 ≡ 0 = cond-false (p b) 1 0 (h b (omega arith) (omega arith)) in
    let more = count_by-none p (b + 1) n (λ q l k. h q (omega arith) (omega arith)) in
    omega arith

more_from : (f : ℕ → List ℕ) (a n : ℕ) → flat_map f (range_with_len a n) ++ f (a + n) ≡ flat_map f (range_with_len a (n + 1))
more_from f a zero = ap f (add-zero a) ∙ sym (append-nil (f a))
more_from f a (suc n) =
    let next : a + suc n ≡ a + 1 + n = omega arith in
    let long : suc (n + 1) ≡ suc n + 1 = omega arith in
    append_assoc (f a) (flat_map f (range_with_len (a + 1) n)) (f (a + suc n))
    ∙ ap (λ zs. f a ++ zs) (ap (λ m. flat_map f (range_with_len (a + 1) n) ++ f m) next ∙ more_from f (a + 1) n)
    ∙ ap (λ m. flat_map f (range_with_len a m)) long

pub flat_map-more : (f : ℕ → List ℕ) (n : ℕ) → flat_map f (range_with_len 0 n) ++ f n ≡ flat_map f (range_with_len 0 (n + 1))
flat_map-more f n = let e : n ≡ 0 + n = omega arith in ap (λ m. flat_map f (range_with_len 0 n) ++ f m) e ∙ more_from f 0 n
