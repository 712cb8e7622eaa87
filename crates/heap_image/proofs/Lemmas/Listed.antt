-- Addresses that a filter keeps of a range, and lists of addresses.
use Rattle.std.proofs.Common.{◌≡◌, ℕ, zero, suc, ◌+◌, ◌≤◌, ◌<◌, Bool, true, cond, List, ◌∷◌, length, get_or, refl, sym, ◌∙◌, ap, subst, arith, eqb}
use Rattle.std.proofs.lemmas.Bool.{eq-eqb, eqb-true}
use Rattle.std.proofs.lemmas.List.Folds.{Any-from_list_any, list_any_at}
use Rattle.std.specs.Prelude.{filter}
use Rattle.std.specs.List.{list_any, range_with_len}
use Rattle.object_heap.specs.Reachable.{is_listed}

-- tests that agree on a range keep the same of it
pub filter_same : (p q : ℕ → Bool) (from n : ℕ) → ((a : ℕ) → from ≤ a → a < from + n → p a ≡ q a) → filter p (range_with_len from n) ≡ filter q (range_with_len from n)
filter_same p q from zero h = refl
filter_same p q from (suc n) h =
    let r : List ℕ = range_with_len (from + 1) n in
    let rest : filter p r ≡ filter q r = filter_same p q (from + 1) n (λ a l m. h a (omega arith) (omega arith)) in
    ap (λ b. cond b (from ∷ filter p r) (filter p r)) (h from (omega arith) (omega arith)) ∙ ap (λ xs. cond (q from) (from ∷ xs) xs) rest

-- a listed address that passes shows that one does
pub any_listed : (p : ℕ → Bool) (xs : List ℕ) (a : ℕ) → is_listed xs a ≡ true → p a ≡ true → list_any p xs ≡ true
any_listed p xs a listed passes =
    let at = Any-from_list_any (λ b. eqb a b) xs listed in
    let e : a ≡ get_or xs at.0 at.1 = eqb-true a at.1 at.4 ∙ sym at.3 in
    list_any_at p xs at.0 at.1 at.2 (subst (λ c. p c ≡ true) e passes)

pub listed_at : (xs : List ℕ) (i : ℕ) → i < length xs → is_listed xs (get_or xs i 0) ≡ true
listed_at xs i l = list_any_at (λ b. eqb (get_or xs i 0) b) xs i 0 l (eq-eqb (get_or xs i 0) (get_or xs i 0) refl)
