-- Tests that agree, and functions that say the same of each number of a list.
use Rattle.std.proofs.Common.{◌≡◌, ℕ, zero, suc, ◌+◌, Bool, true, false, cond, ◌||◌, ◌++◌, List, [], ◌∷◌, refl, sym, ◌∙◌, ap, arith}
use Rattle.std.proofs.lemmas.List.Elements.{All-tail}
use Rattle.std.proofs.lemmas.List.Sums.{sum_by-cons}
use Rattle.std.specs.Prelude.{All, map, fold, flat_map, count_by}
use Rattle.std.specs.List.{list_any}
use Rattle.summary.specs.NewAddresses.{greatest}

pub agree : (x y : Bool) → (x ≡ true → y ≡ true) → (y ≡ true → x ≡ true) → x ≡ y
agree true y h k = sym (h refl)
agree false true h k = k refl
agree false false h k = refl

pub any-same : (t u : ℕ → Bool) (xs : List ℕ) → All (λ a. t a ≡ u a) xs → list_any t xs ≡ list_any u xs
any-same t u [] h = refl
any-same t u (x ∷ xs) h =
    ap (λ b. b || list_any t xs) (h 0 x (omega arith)) ∙ ap (λ b. u x || b) (any-same t u xs (All-tail (λ a. t a ≡ u a) x xs h))

pub count-same : (t u : ℕ → Bool) (xs : List ℕ) → ((a : ℕ) → t a ≡ u a) → count_by t xs ≡ count_by u xs
count-same t u [] h = refl
count-same t u (x ∷ xs) h =
    sum_by-cons (λ y. cond (t y) 1 0) x xs
    ∙ ap (λ b. cond {A = ℕ} b 1 0 + count_by t xs) (h x)
    ∙ ap (λ n. cond {A = ℕ} (u x) 1 0 + n) (count-same t u xs h)
    ∙ sym (sum_by-cons (λ y. cond (u y) 1 0) x xs)

pub fold-same : (f g : ℕ → ℕ → ℕ) (xs : List ℕ) → All (λ a. (n : ℕ) → f n a ≡ g n a) xs → (n : ℕ) → fold f n xs ≡ fold g n xs
fold-same f g [] h n = refl
fold-same f g (x ∷ xs) h n =
    ap (λ m. fold f m xs) (h 0 x (omega arith) n) ∙ fold-same f g xs (All-tail (λ a. (m : ℕ) → f m a ≡ g m a) x xs h) (g n x)

pub map-same : {A : Type 0} (f g : ℕ → A) (xs : List ℕ) → ((a : ℕ) → f a ≡ g a) → map f xs ≡ map g xs
map-same f g [] h = refl
map-same f g (x ∷ xs) h = ap (λ y. y ∷ map f xs) (h x) ∙ ap (λ ys. g x ∷ ys) (map-same f g xs h)

pub flat-same : {A : Type 0} (f g : ℕ → List A) (xs : List ℕ) → All (λ a. f a ≡ g a) xs → flat_map f xs ≡ flat_map g xs
flat-same f g [] h = refl
flat-same f g (x ∷ xs) h =
    ap (λ ys. ys ++ flat_map f xs) (h 0 x (omega arith)) ∙ ap (λ ys. g x ++ ys) (flat-same f g xs (All-tail (λ a. f a ≡ g a) x xs h))

pub greatest-same : (t u : ℕ → Bool) → ((a : ℕ) → t a ≡ u a) → (n : ℕ) → greatest t n ≡ greatest u n
greatest-same t u h zero = refl
greatest-same t u h (suc n) =
    ap (λ b. cond b (suc n) (greatest t n)) (h (suc n)) ∙ ap (λ m. cond (u (suc n)) (suc n) m) (greatest-same t u h n)
