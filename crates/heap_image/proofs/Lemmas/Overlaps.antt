-- The first object that begins before the end of the one before it.
use Rattle.std.proofs.Common.{◌≡◌, ℕ, ◌+◌, Bool, true, false, cond, List, [], ◌∷◌, ◌++◌, drop, refl, sym, arith, ltb, Option, Some, None}
use Rattle.std.proofs.lemmas.Bool.{cond-false, le-ltb}
use Rattle.std.specs.Prelude.{find, zip, fold, option_map}
use Rattle.std.specs.Option.{option_or}

-- the end of the last of these objects, of these sizes, or 0 where there is none
abbrev pub last_end_of : (ℕ → ℕ) → List ℕ → ℕ
last_end_of size xs = fold (λ _ a. a + size a) 0 xs

abbrev pub overlap_of : (ℕ → ℕ) → List ℕ → Option ℕ
overlap_of size xs = option_map (λ (p : ℕ × ℕ). p.1) (find (λ (p : ℕ × ℕ). ltb p.1 (p.0 + size p.0)) (zip xs (drop 1 xs)))

abbrev pub one_if : Bool → ℕ → Option ℕ
one_if b x = cond b (Some x) None

-- one more object
pub overlap_more : (size : ℕ → ℕ) (xs : List ℕ) (b : ℕ) → overlap_of size (xs ++ b ∷ []) ≡ option_or (overlap_of size xs) (one_if (ltb b (last_end_of size xs)) b)
overlap_more size [] b = sym (cond-false (ltb b 0) (Some b) None (le-ltb b 0 (omega arith)))
overlap_more size (a ∷ []) b = one (ltb b (a + size a))
  where
    one : (t : Bool) → option_map (λ (p : ℕ × ℕ). p.1) (cond t (Some (a, b)) None) ≡ option_or None (one_if t b)
    one true = refl
    one false = refl
overlap_more size (a ∷ x ∷ xs) b = by_first (ltb x (a + size a)) (find (λ (p : ℕ × ℕ). ltb p.1 (p.0 + size p.0)) (zip (x ∷ xs ++ b ∷ []) (xs ++ b ∷ []))) (find (λ (p : ℕ × ℕ). ltb p.1 (p.0 + size p.0)) (zip (x ∷ xs) xs)) (overlap_more size (x ∷ xs) b)
  where
    by_first : (t : Bool) (new old : Option (ℕ × ℕ)) → option_map (λ (p : ℕ × ℕ). p.1) new ≡ option_or (option_map (λ (p : ℕ × ℕ). p.1) old) (one_if (ltb b (last_end_of size (x ∷ xs))) b)
        → option_map (λ (p : ℕ × ℕ). p.1) (cond t (Some (a, x)) new) ≡ option_or (option_map (λ (p : ℕ × ℕ). p.1) (cond t (Some (a, x)) old)) (one_if (ltb b (last_end_of size (x ∷ xs))) b)
    by_first true new old h = refl
    by_first false new old h = h

pub last_end_more : (size : ℕ → ℕ) (xs : List ℕ) (b : ℕ) → last_end_of size (xs ++ b ∷ []) ≡ b + size b
last_end_more size xs b = from 0 xs
  where
    from : (e : ℕ) (xs : List ℕ) → fold (λ _ a. a + size a) e (xs ++ b ∷ []) ≡ b + size b
    from e [] = refl
    from e (x ∷ xs) = from (x + size x) xs
