-- Filters of consecutive numbers.
use Rattle.std.proofs.Common.{◌≡◌, ℕ, zero, suc, ◌+◌, ◌≤◌, ◌<◌, Bool, true, false, List, [], ◌∷◌, refl, sym, ◌∙◌, ap, arith}
use Rattle.std.proofs.lemmas.Bool.{cond-true, cond-false}
use Rattle.std.specs.Prelude.{filter, cond}
use Rattle.std.specs.List.{range_with_len}

-- numbers at the front that fail are left out
pub filter-skip : (t : ℕ → Bool) (i b n c m : ℕ) → b + i ≡ c → i + m ≡ n → ((q : ℕ) → b ≤ q → q < c → t q ≡ false) → filter t (range_with_len b n) ≡ filter t (range_with_len c m)
filter-skip t zero b n c m e f none =
    let at : b ≡ c = omega arith in
    let all : n ≡ m = omega arith in
    ap (λ x. filter t (range_with_len x n)) at ∙ ap (λ k. filter t (range_with_len c k)) all
filter-skip t (suc i) b zero c m e f none = let no : ⊥ = omega arith in absurd no
filter-skip t (suc i) b (suc n) c m e f none =
    cond-false (t b) (b ∷ filter t (range_with_len (b + 1) n)) (filter t (range_with_len (b + 1) n)) (none b (omega arith) (omega arith))
    ∙ filter-skip t i (b + 1) n c m (omega arith) (omega arith) (λ q l h. none q (omega arith) h)

pub filter-none : (t : ℕ → Bool) (b n : ℕ) → ((q : ℕ) → b ≤ q → q < b + n → t q ≡ false) → filter t (range_with_len b n) ≡ []
filter-none t b n none = filter-skip t n b n (b + n) 0 refl (omega arith) none

pub filter-first : (t : ℕ → Bool) (b n m : ℕ) → suc m ≡ n → t b ≡ true → filter t (range_with_len b n) ≡ b ∷ filter t (range_with_len (b + 1) m)
filter-first t b n m e passes = ap (λ k. filter t (range_with_len b k)) (sym e) ∙ cond-true (t b) (b ∷ filter t (range_with_len (b + 1) m)) (filter t (range_with_len (b + 1) m)) passes

pub filter-same : (t u : ℕ → Bool) (b n : ℕ) → ((q : ℕ) → b ≤ q → q < b + n → t q ≡ u q) → filter t (range_with_len b n) ≡ filter u (range_with_len b n)
filter-same t u b zero same = refl
filter-same t u b (suc n) same =
    ap (λ (v : Bool). cond v (b ∷ filter t (range_with_len (b + 1) n)) (filter t (range_with_len (b + 1) n))) (same b (omega arith) (omega arith))
    ∙ ap (λ (xs : List ℕ). cond (u b) (b ∷ xs) xs) (filter-same t u (b + 1) n (λ q l h. same q (omega arith) (omega arith)))
