-- Tests on places that give one answer: a place by its word of 64 bits and its bit there.
use Rattle.std.proofs.Common.{◌≡◌, ℕ, zero, suc, ◌/◌, ◌%◌, ◌<◌, min, max, Bool, true, false, ◌&&◌, ◌||◌, eqb, refl, sym, arith}
use Rattle.std.proofs.lemmas.Bool.{eqb-true, eq-eqb, and_parts, and_from}

pub same_tests : (a b : Bool) → (a ≡ true → b ≡ true) → (b ≡ true → a ≡ true) → a ≡ b
same_tests true b h k = sym (h refl)
same_tests false true h k = k refl
same_tests false false h k = refl

pub or-false : (b : Bool) → b ≡ (b || false)
or-false true = refl
or-false false = refl

pub and-true : (b : Bool) → b ≡ (true && b)
and-true true = refl
and-true false = refl

pub max-is_one : (a b : ℕ) → a < 2 → b < 2 → eqb (max a b) 1 ≡ (eqb a 1 || eqb b 1)
max-is_one zero zero h k = refl
max-is_one zero (suc zero) h k = refl
max-is_one (suc zero) zero h k = refl
max-is_one (suc zero) (suc zero) h k = refl
max-is_one zero (suc (suc b)) h k = let no : ⊥ = omega arith in absurd no
max-is_one (suc zero) (suc (suc b)) h k = let no : ⊥ = omega arith in absurd no
max-is_one (suc (suc a)) b h k = let no : ⊥ = omega arith in absurd no

pub min-is_one : (a b : ℕ) → a < 2 → b < 2 → eqb (min a b) 1 ≡ (eqb a 1 && eqb b 1)
min-is_one zero zero h k = refl
min-is_one zero (suc zero) h k = refl
min-is_one (suc zero) zero h k = refl
min-is_one (suc zero) (suc zero) h k = refl
min-is_one zero (suc (suc b)) h k = let no : ⊥ = omega arith in absurd no
min-is_one (suc zero) (suc (suc b)) h k = let no : ⊥ = omega arith in absurd no
min-is_one (suc (suc a)) b h k = let no : ⊥ = omega arith in absurd no

-- a place by its word and its place there
pub same_place : (i k : ℕ) → (eqb (k / 64) (i / 64) && eqb (i % 64) (k % 64)) ≡ eqb i k
same_place i k = same_tests (eqb (k / 64) (i / 64) && eqb (i % 64) (k % 64)) (eqb i k)
    (λ h. let p = and_parts (eqb (k / 64) (i / 64)) (eqb (i % 64) (k % 64)) h in
    let a : k / 64 ≡ i / 64 = eqb-true (k / 64) (i / 64) p.0 in
    let b : i % 64 ≡ k % 64 = eqb-true (i % 64) (k % 64) p.1 in
    eq-eqb i k (omega arith))
    (λ h. let e : i ≡ k = eqb-true i k h in
    and_from (eqb (k / 64) (i / 64)) (eqb (i % 64) (k % 64)) (eq-eqb (k / 64) (i / 64) (omega arith)) (eq-eqb (i % 64) (k % 64) (omega arith)))
