-- The words of the next region, for each.
use Rattle.std.proofs.Common.{◌≡◌, ℕ, zero, suc, ◌+◌, List, [], ◌∷◌, ◌++◌, length, set, refl, ap, ◌∙◌, arith}
use Rattle.std.specs.Prelude.{slice_index, slice_index_or}
use Rattle.std.proofs.lemmas.List.{length-append}

abbrev pub nexts : List (List ℕ) → List (List ℕ)
nexts [] = []
nexts (x ∷ xs) = xs ++ [] ∷ []

pub nexts_length : (xs : List (List ℕ)) → length (nexts xs) ≡ length xs
nexts_length [] = refl
nexts_length (x ∷ xs) = let e = length-append xs ([] ∷ []) in omega arith

and_none : (xs : List (List ℕ)) (r : ℕ) → slice_index_or (xs ++ [] ∷ []) r [] ≡ slice_index_or xs r []
and_none [] zero = refl
and_none [] (suc r) = refl
and_none (x ∷ xs) zero = refl
and_none (x ∷ xs) (suc r) = and_none xs r

pub next_at : (xs : List (List ℕ)) (r : ℕ) → slice_index_or (nexts xs) r [] ≡ slice_index_or xs (r + 1) []
next_at [] r = refl
next_at (x ∷ xs) r = and_none xs r ∙ (let e : suc r ≡ r + 1 = omega arith in ap (λ k. slice_index_or (x ∷ xs) k []) e)

-- the only word is set to that of another region
pub only_set : (xs ys : List ℕ) → length xs ≡ 1 → length ys ≡ 1 → set xs 0 (slice_index ys 0) ≡ ys
only_set [] ys e f = absurd (omega arith)
only_set (x ∷ x' ∷ xs) ys e f = absurd (omega arith)
only_set (x ∷ []) [] e f = absurd (omega arith)
only_set (x ∷ []) (y ∷ y' ∷ ys) e f = absurd (omega arith)
only_set (x ∷ []) (y ∷ []) e f = refl
