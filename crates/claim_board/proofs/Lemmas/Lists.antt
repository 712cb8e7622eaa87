-- Lists whose end is taken off.
use Rattle.std.proofs.Common.{◌≡◌, ℕ, zero, suc, ◌+◌, List, [], ◌∷◌, ◌++◌, length, get_or, take, refl, sym, ap, ◌∙◌, append_assoc, arith}
use mathlib.Core.Option.{some, some-ne-none, some-injective}
use lib.ListN.{get_elem?}

module _ {A : Type 0} where
  -- the whole list begins with this one
  abbrev pub EndsIn : List A → List A → Type 0
  EndsIn whole front = (back : List A) × (whole ≡ front ++ back)

  pub shorter : (whole front rest : List A) (x : A) → EndsIn whole front → front ≡ rest ++ x ∷ [] → EndsIn whole rest
  shorter whole front rest x e is = (x ∷ e.0, e.1 ∙ (ap (λ xs. xs ++ e.0) is ∙ append_assoc rest (x ∷ []) e.0))

  middle : (d : A) (xs ys : List A) (y : A) → get_or (xs ++ y ∷ ys) (length xs) d ≡ y
  middle d [] ys y = refl
  middle d (x ∷ xs) ys y = middle d xs ys y

  -- the element that is taken off
  pub last_is : (d : A) (whole front rest : List A) (x : A) → EndsIn whole front → front ≡ rest ++ x ∷ [] → get_or whole (length rest) d ≡ x
  last_is d whole front rest x e is = ap (λ xs. get_or xs (length rest) d) (e.1 ∙ (ap (λ xs. xs ++ e.0) is ∙ append_assoc rest (x ∷ []) e.0)) ∙ middle d rest e.0 x

  -- one element more is taken
  take_one : (xs : List A) (i : ℕ) (y : A) → get_elem? xs i ≡ some y → take (suc i) xs ≡ take i xs ++ y ∷ []
  take_one [] i y e = absurd (some-ne-none y (sym e))
  take_one (x ∷ xs) zero y e = ap (λ z. z ∷ []) (some-injective x y e)
  take_one (x ∷ xs) (suc i) y e = ap (λ zs. x ∷ zs) (take_one xs i y e)

  pub taken_one : (xs whole ys : List A) (i : ℕ) (y : A) → ys ≡ take i xs → whole ≡ ys ++ y ∷ [] → get_elem? xs i ≡ some y → whole ≡ take (i + 1) xs
  taken_one xs whole ys i y before is e = let n : suc i ≡ i + 1 = omega arith in is ∙ (ap (λ zs. zs ++ y ∷ []) before ∙ (sym (take_one xs i y e) ∙ ap (λ k. take k xs) n))
