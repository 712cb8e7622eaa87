-- Increasing lists to which a larger number is appended.
use Rattle.std.proofs.Common.{◌≡◌, ◌⊎◌, inl, inr, ℕ, ◌+◌, ◌<◌, ◌≤◌, List, [], ◌∷◌, ◌++◌, length, get_or, All, arith}
use Rattle.std.proofs.lemmas.Bool.{cases_lt}
use Rattle.std.proofs.lemmas.List.{get_or_append_left, get_or_push, length-append}
use Rattle.std.specs.List.Sorted.{IsStrictlyIncreasing}

pub increasing_push : (xs : List ℕ) (x : ℕ) → IsStrictlyIncreasing xs → All (λ a. a < x) xs → IsStrictlyIncreasing (xs ++ x ∷ [])
increasing_push xs x up below k l = go (cases_lt (k + 1) (length xs))
  where
    go : (k + 1 < length xs) ⊎ (length xs ≤ k + 1) → get_or (xs ++ x ∷ []) k 0 < get_or (xs ++ x ∷ []) (k + 1) 0
    go (inl h) =
        let here : get_or (xs ++ x ∷ []) k 0 ≡ get_or xs k 0 = get_or_append_left xs (x ∷ []) 0 k (omega (arith, h)) in
        let next : get_or (xs ++ x ∷ []) (k + 1) 0 ≡ get_or xs (k + 1) 0 = get_or_append_left xs (x ∷ []) 0 (k + 1) h in
        let rises : get_or xs k 0 < get_or xs (k + 1) 0 = up k h in
        omega (arith, here, next, rises)
    go (inr h) =
        let long : length (xs ++ x ∷ []) ≡ length xs + 1 = length-append xs (x ∷ []) in
        let here : get_or (xs ++ x ∷ []) k 0 ≡ get_or xs k 0 = get_or_append_left xs (x ∷ []) 0 k (omega (arith, long, l, h)) in
        let next : get_or (xs ++ x ∷ []) (k + 1) 0 ≡ x = get_or_push xs x 0 (k + 1) (omega (arith, long, l, h)) in
        let rises : get_or xs k 0 < x = below k 0 (omega (arith, long, l, h)) in
        omega (arith, here, next, rises)
