-- Lists whose elements are changed in turn, and lists that end with an element.
use Rattle.std.proofs.Common.{◌≡◌, ℕ, zero, suc, ◌+◌, ◌≤◌, ◌<◌, List, [], ◌∷◌, ◌++◌, length, take, drop, set, get_or, refl, sym, ap, subst, ◌∙◌, arith}
use Rattle.std.specs.Prelude.{All, Some, map}
use Rattle.std.proofs.lemmas.List.{drop-drop, drop-set-lt, get_or-drop, take_all, take_more_set}
use Rattle.std.proofs.lemmas.List.Elements.{All-push, All-pop}

module _ {X : Type 0} where
  -- the elements behind a change are as they were
  pub behind : (xs ys : List X) (i : ℕ) (x : X) → drop i xs ≡ drop i ys → drop (i + 1) (set xs i x) ≡ drop (i + 1) ys
  behind xs ys i x same = drop-set-lt (i + 1) xs i x (omega arith) ∙ sym (drop-drop 1 i xs) ∙ ap (drop 1) same ∙ drop-drop 1 i ys

  -- so is the next one
  pub next : (xs ys : List X) (i : ℕ) (d : X) → drop i xs ≡ drop i ys → get_or xs i d ≡ get_or ys i d
  next xs ys i d same =
      let e : i + 0 ≡ i = omega arith in
      ap (λ n. get_or xs n d) (sym e) ∙ sym (get_or-drop i xs 0 d) ∙ ap (λ zs. get_or zs 0 d) same ∙ get_or-drop i ys 0 d ∙ ap (λ n. get_or ys n d) e

  module _ (P : X → Type 0) where
    -- what holds of the changed elements holds of one more
    pub one_more : (xs : List X) (i : ℕ) (x : X) → i < length xs → All P (take i xs) → P x → All P (take (i + 1) (set xs i x))
    one_more xs i x inside so_far here = subst (All P) (sym (take_more_set xs i x inside)) (All-push P (take i xs) x so_far here)

    -- and in the end of all
    pub all_of : (xs : List X) (i : ℕ) → length xs ≤ i → All P (take i xs) → All P xs
    all_of xs i end so_far = subst (All P) (take_all i xs end) so_far

    -- what holds of each element holds of the front and of the last element
    pub front_and_last : (all front : List X) (last : X) → all ≡ front ++ last ∷ [] → All P all → All P front × P last
    front_and_last all front last is each = All-pop P all front (Some last) is each

-- a list whose image ends with an element ends with one of that image
pub ends : {X Y Z : Type 0} (f : X → Z) (g : Y → Z) (xs : List X) (ys : List Y) (y : Y) → map f xs ≡ map g (ys ++ y ∷ [])
    → (others : List X) × (last : X) × (xs ≡ others ++ last ∷ []) × (f last ≡ g y)
ends f g [] [] y same = absurd (omega (arith, ap length same))
ends f g [] (z ∷ zs) y same = absurd (omega (arith, ap length same))
ends f g (x ∷ []) [] y same = ([], x, refl, ap (λ zs. get_or zs 0 (f x)) same)
ends f g (x ∷ w ∷ ws) [] y same = absurd (omega (arith, ap length same))
ends f g (x ∷ xs) (z ∷ zs) y same =
    let rest = ends f g xs zs y (ap (drop 1) same) in (x ∷ rest.0, rest.1, ap (λ all. x ∷ all) rest.2, rest.3)

-- lists with the same image that end with elements have the same image of these
pub same_end : {X Y : Type 0} (f : X → Y) (xs ys : List X) (x y : X) → map f (xs ++ x ∷ []) ≡ map f (ys ++ y ∷ []) → f x ≡ f y
same_end f [] [] x y same = ap (λ zs. get_or zs 0 (f x)) same
same_end f [] (z ∷ []) x y same = absurd (omega (arith, ap length same))
same_end f [] (z ∷ w ∷ ws) x y same = absurd (omega (arith, ap length same))
same_end f (z ∷ []) [] x y same = absurd (omega (arith, ap length same))
same_end f (z ∷ w ∷ ws) [] x y same = absurd (omega (arith, ap length same))
same_end f (z ∷ zs) (w ∷ ws) x y same = same_end f zs ws x y (ap (drop 1) same)

-- a change that the function doesn't show
pub same_at : {X Y : Type 0} (f : X → Y) (xs : List X) (i : ℕ) (x d : X) → i < length xs → f x ≡ f (get_or xs i d) → map f (set xs i x) ≡ map f xs
same_at f [] i x d inside same = absurd (omega (arith, inside))
same_at f (y ∷ ys) zero x d inside same = ap (λ z. z ∷ map f ys) same
same_at f (y ∷ ys) (suc i) x d inside same = ap (λ zs. f y ∷ zs) (same_at f ys i x d (omega (arith, inside)) same)
