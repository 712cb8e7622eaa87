-- Lists that are turned round.
use Rattle.std.proofs.Common.{◌≡◌, List, [], ◌∷◌, ◌++◌, reverse, refl, length, ap, sym, ◌∙◌, append_assoc, arith}
use mathlib.Core.List.{reverse-cons}

turned : {A : Type 0} (xs : List A) (x : A) → reverse (xs ++ x ∷ []) ≡ x ∷ reverse xs
turned [] x = refl
turned (y ∷ ys) x = reverse-cons y (ys ++ x ∷ []) ∙ (ap (λ l. l ++ y ∷ []) (turned ys x) ∙ ap (λ l. x ∷ l) (sym (reverse-cons y ys)))

-- what is taken from the end of a list that was turned round comes next
pub taken_next : {A : Type 0} (all done front : List A) (x : A) → done ++ reverse (front ++ x ∷ []) ≡ all → (done ++ x ∷ []) ++ reverse front ≡ all
taken_next all done front x e = append_assoc done (x ∷ []) (reverse front) ∙ (ap (λ l. done ++ l) (sym (turned front x)) ∙ e)

-- a list without elements
pub empty_list : {A : Type 0} (xs : List A) → length xs ≡ 0 → xs ≡ []
empty_list [] e = refl
empty_list (x ∷ xs) e = absurd (omega (arith, e))
