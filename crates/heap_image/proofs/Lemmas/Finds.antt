-- The first item of a list that passes a test.
use Rattle.std.proofs.Common.{◌≡◌, ℕ, zero, suc, ◌+◌, ◌<◌, inl, inr, Bool, true, false, List, [], ◌∷◌, length, get_or, take, refl, sym, ◌∙◌, ap, arith, cond, Option, Some, None}
use Rattle.std.proofs.lemmas.Bool.{cases_Bool, cond-true, cond-false}
use Rattle.std.proofs.lemmas.List.{take_more}
use Rattle.std.proofs.lemmas.List.Folds.{find-append}
use Rattle.std.specs.Prelude.{find, map, option_map}
use Rattle.std.specs.Option.{option_or}
use Rattle.std.specs.List.{range_with_len}

pub find_none_more : {X : Type 0} (t : X → Bool) (xs : List X) (i : ℕ) (d : X) → i < length xs → find t (take i xs) ≡ None → t (get_or xs i d) ≡ false → find t (take (i + 1) xs) ≡ None
find_none_more t xs i d l h fails =
    ap (find t) (take_more xs i d l) ∙ find-append t (take i xs) (get_or xs i d ∷ []) ∙ ap (λ o. option_or o (find t (get_or xs i d ∷ []))) h ∙ cond-false (t (get_or xs i d)) (Some (get_or xs i d)) None fails

pub find_first : {X : Type 0} (t : X → Bool) (xs : List X) (i : ℕ) (d : X) → i < length xs → find t (take i xs) ≡ None → t (get_or xs i d) ≡ true → find t xs ≡ Some (get_or xs i d)
find_first t [] i d l h passes = let no : ⊥ = omega arith in absurd no
find_first t (x ∷ xs) zero d l h passes = cond-true (t x) (Some x) (find t xs) passes
find_first t (x ∷ xs) (suc i) d l h passes = elim (cases_Bool (t x)) [
  | inl p ↦ absurd (some_none (sym (cond-true (t x) (Some x) (find t (take i xs)) p) ∙ h))
  | inr fails ↦ cond-false (t x) (Some x) (find t xs) fails ∙ find_first t xs i d (omega arith) (sym (cond-false (t x) (Some x) (find t (take i xs)) fails) ∙ h) passes
]
  where
    some_none : {A : Type 0} {x : A} → Some x ≡ None → ⊥
    some_none h = cc

-- the least number from b on that passes, below b + n
pub find_none_in_range : (t : ℕ → Bool) (b n : ℕ) → ((k : ℕ) → k < b + n → t k ≡ false) → find t (range_with_len b n) ≡ None
find_none_in_range t b zero h = refl
find_none_in_range t b (suc n) h = cond-false (t b) (Some b) (find t (range_with_len (b + 1) n)) (h b (omega arith)) ∙ find_none_in_range t (b + 1) n (λ k l. h k (omega arith))

pub find_least : (t : ℕ → Bool) (b n i : ℕ) → i < n → ((k : ℕ) → k < b + i → t k ≡ false) → t (b + i) ≡ true → find t (range_with_len b n) ≡ Some (b + i)
find_least t b zero i l h passes = let no : ⊥ = omega arith in absurd no
find_least t b (suc n) zero l h passes = let e : b + 0 ≡ b = omega arith in cond-true (t b) (Some b) (find t (range_with_len (b + 1) n)) (ap t (sym e) ∙ passes) ∙ ap Some (sym e)
find_least t b (suc n) (suc i) l h passes =
    let e : b + suc i ≡ b + 1 + i = omega arith in
    cond-false (t b) (Some b) (find t (range_with_len (b + 1) n)) (h b (omega arith)) ∙ find_least t (b + 1) n i (omega arith) (λ k m. h k (omega arith)) (ap t (sym e) ∙ passes) ∙ ap Some (sym e)

-- the same of the numbers from 0 on
pub find_least_from_zero : (t : ℕ → Bool) (n i : ℕ) → i < n → ((k : ℕ) → k < i → t k ≡ false) → t i ≡ true → find t (range_with_len 0 n) ≡ Some i
find_least_from_zero t n i l h passes =
    let e : 0 + i ≡ i = omega arith in
    find_least t 0 n i l (λ k m. h k (omega arith)) (ap t e ∙ passes) ∙ ap Some e

-- a field is found as its pair is
pub find-pairs : (t : ℕ × ℕ → Bool) (a : ℕ) (xs : List ℕ) → find t (map (λ f. (a, f)) xs) ≡ option_map (λ f. (a, f)) (find (λ f. t (a, f)) xs)
find-pairs t a [] = refl
find-pairs t a (f ∷ xs) = either (t (a, f)) (find t (map (λ g. (a, g)) xs)) (find (λ g. t (a, g)) xs) (find-pairs t a xs)
  where
    either : (b : Bool) (p : Option (ℕ × ℕ)) (o : Option ℕ) → p ≡ option_map (λ g. (a, g)) o → cond b (Some (a, f)) p ≡ option_map (λ g. (a, g)) (cond b (Some f) o)
    either true p o e = refl
    either false p o e = e
