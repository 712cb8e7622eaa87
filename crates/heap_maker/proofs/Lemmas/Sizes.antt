-- Counts of references.
use Rattle.std.proofs.Common.{◌≡◌, ◌<◌, ◌+◌, ◌∙◌, ℕ, cond, not, ap, sym, arith}
use Rattle.std.proofs.lemmas.Bool.Decides.{nat_tests}
use Rattle.std.proofs.lemmas.List.FromFn.{sum_by-map-range_with_len_more}
use Rattle.std.specs.Prelude.{count_by, map, ◌==◌}
use Rattle.std.specs.List.{range_with_len}

-- how many of the first numbers are not 0
abbrev held : (ℕ → ℕ) → ℕ → ℕ
held f n = count_by (λ w. not (w == 0)) (map f (range_with_len 0 n))

one : (w : ℕ) → 0 < w → cond {A = ℕ} (not (w == 0)) 1 0 ≡ 1
one w some = grind (arith, nat_tests, some)

more : (f : ℕ → ℕ) (n : ℕ) → held f (n + 1) ≡ held f n + cond {A = ℕ} (not (f n == 0)) 1 0
more f n = sum_by-map-range_with_len_more (λ w. cond {A = ℕ} (not (w == 0)) 1 0) f 0 n n (omega arith)

-- one number more that is not 0, and one that is
pub held_one : (f : ℕ → ℕ) (n w : ℕ) → w ≡ f n → 0 < w
    → count_by (λ w. not (w == 0)) (map f (range_with_len 0 (n + 1))) ≡ count_by (λ w. not (w == 0)) (map f (range_with_len 0 n)) + 1
held_one f n w is some = more f n ∙ ap (λ k. held f n + cond {A = ℕ} (not (k == 0)) 1 0) (sym is) ∙ ap (λ k. held f n + k) (one w some)

pub held_none : (f : ℕ → ℕ) (n w : ℕ) → w ≡ f n → w ≡ 0
    → count_by (λ w. not (w == 0)) (map f (range_with_len 0 (n + 1))) ≡ count_by (λ w. not (w == 0)) (map f (range_with_len 0 n))
held_none f n w is none =
    let zero_added : held f n + 0 ≡ held f n = omega arith in
    more f n ∙ ap (λ k. held f n + cond {A = ℕ} (not (k == 0)) 1 0) (sym is ∙ none) ∙ zero_added
