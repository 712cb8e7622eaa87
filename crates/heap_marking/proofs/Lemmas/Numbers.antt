-- The number of addresses of a part, and ranges of numbers.
use Rattle.std.proofs.Common.{◌≡◌, ℕ, zero, suc, ◌+◌, ◌^◌, ◌≤◌, ◌<◌, Bool, cond, List, [], ◌∷◌, ◌++◌, refl, ◌∙◌, ap, arith}
use Rattle.std.proofs.Math.Nat.{one-le-pow}
use Rattle.std.specs.Prelude.{filter}
use Rattle.std.specs.List.{range_with_len}

pub part_some : (log : ℕ) → 0 < 2 ^ log
part_some log = let h : 1 ≤ 2 ^ log = one-le-pow log 2 (omega arith) in omega arith

pub range_suc : (a n : ℕ) → range_with_len a (suc n) ≡ range_with_len a n ++ (a + n) ∷ []
range_suc a zero = let e : a ≡ a + 0 = omega arith in ap (λ x. x ∷ []) e
range_suc a (suc n) =
    let e : a + 1 + n ≡ a + suc n = omega arith in
    ap (λ xs. a ∷ xs) (range_suc (a + 1) n ∙ ap (λ x. range_with_len (a + 1) n ++ x ∷ []) e)

-- tests that agree on a range keep the same of it
pub filter_same : (p q : ℕ → Bool) (from n : ℕ) → ((a : ℕ) → from ≤ a → a < from + n → p a ≡ q a) → filter p (range_with_len from n) ≡ filter q (range_with_len from n)
filter_same p q from zero h = refl
filter_same p q from (suc n) h =
    let r : List ℕ = range_with_len (from + 1) n in
    let rest : filter p r ≡ filter q r = filter_same p q (from + 1) n (λ a l m. h a (omega arith) (omega arith)) in
    ap (λ b. cond b (from ∷ filter p r) (filter p r)) (h from (omega arith) (omega arith)) ∙ ap (λ xs. cond (q from) (from ∷ xs) xs) rest
