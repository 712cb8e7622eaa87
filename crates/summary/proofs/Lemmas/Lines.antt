-- The text of the report, piece by piece.
use Rattle.std.proofs.Common.{◌≡◌, ℕ, zero, suc, ◌+◌, ◌-◌, List, [], ◌∷◌, ◌++◌, false, length, append_assoc, append-nil, zero-add, refl, sym, ◌∙◌, ap, arith}
use Rattle.std.specs.Prelude.{replicate, decimal, flat_map}
use Rattle.std.specs.List.{repeat, join_with_byte, range_with_len}
use Rattle.std.specs.Fmt.{format_spec, styled_decimal, padded_integral, char_count}
use Rattle.summary.specs.Report.{in_column}
use Rattle.summary.proofs.Lemmas.Addresses.{range_with_len-add}

spaces : (n : ℕ) → repeat {A = ℕ} n (32 ∷ []) ≡ replicate n 32
spaces zero = refl
spaces (suc n) = ap (λ (xs : List ℕ). 32 ∷ xs) (spaces n)

padded-column : (numeral : List ℕ) → padded_integral (format_spec 32 3 0 8 18446744073709551615) false [] numeral ≡ in_column numeral
unfolding padded_integral char_count lib.Utf8.encode
padded-column numeral =
    let n : ℕ = 8 - length numeral in
    let k : ℕ = n - 0 - 0 in
    let same : k ≡ n = omega arith in
    let none : k - k ≡ 0 = omega arith in
    ap (λ (m : ℕ). repeat {A = ℕ} k (32 ∷ []) ++ [] ++ [] ++ [] ++ (numeral ++ repeat {A = ℕ} m (32 ∷ []))) none
    ∙ ap (λ (m : ℕ). repeat {A = ℕ} m (32 ∷ []) ++ [] ++ [] ++ [] ++ (numeral ++ [])) same
    ∙ ap (λ (front : List ℕ). front ++ [] ++ [] ++ [] ++ (numeral ++ [])) (spaces n)
    ∙ simp append-nil

-- a number with a width of 8
pub column : (n : ℕ) → styled_decimal (format_spec 32 3 0 8 18446744073709551615) n ≡ in_column (decimal n)
column n = padded-column (decimal n)

regroup : (b a p l d c s e : List ℕ) → ((((((b ++ a) ++ p) ++ l) ++ d) ++ c) ++ s) ++ e ≡ b ++ ((a ++ (p ++ (l ++ (d ++ (c ++ s))))) ++ e)
regroup b a p l d c s e = simp append_assoc

pub joined : (b a p l d c s : List ℕ) → ((((((b ++ a) ++ 32 ∷ p) ++ 32 ∷ l) ++ 32 ∷ d) ++ 32 ∷ c) ++ 32 ∷ s) ++ 10 ∷ [] ≡ b ++ (join_with_byte 32 (a ∷ p ∷ l ∷ d ∷ c ∷ s ∷ []) ++ 10 ∷ [])
joined b a p l d c s = regroup b a (32 ∷ p) (32 ∷ l) (32 ∷ d) (32 ∷ c) (32 ∷ s) (10 ∷ [])

flat_map-append : (f : ℕ → List ℕ) (xs ys : List ℕ) → flat_map f (xs ++ ys) ≡ flat_map f xs ++ flat_map f ys
flat_map-append f [] ys = refl
flat_map-append f (x ∷ xs) ys = ap (λ zs. f x ++ zs) (flat_map-append f xs ys) ∙ sym (append_assoc (f x) (flat_map f xs) (flat_map f ys))

pub flat_map-more : (f : ℕ → List ℕ) (n : ℕ) → flat_map f (range_with_len 0 n) ++ f n ≡ flat_map f (range_with_len 0 (n + 1))
flat_map-more f n =
    sym (ap (flat_map f) (range_with_len-add 0 n 1)
    ∙ flat_map-append f (range_with_len 0 n) (range_with_len (0 + n) 1)
    ∙ ap (λ m. flat_map f (range_with_len 0 n) ++ flat_map f (range_with_len m 1)) (zero-add n)
    ∙ ap (λ zs. flat_map f (range_with_len 0 n) ++ zs) (append-nil (f n)))
