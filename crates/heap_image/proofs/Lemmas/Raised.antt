-- Bits that are raised by one place each, over the words.
use Rattle.std.proofs.Common.{◌≡◌, ℕ, suc, ◌+◌, ◌-◌, ◌*◌, ◌/◌, ◌%◌, ◌^◌, ◌≤◌, ◌<◌, inl, inr, max, false, List, [], ◌∷◌, length, get_or, refl, sym, ◌∙◌, ap, arith, eqb, bit_or, add-one, drop, drop-cons, ◌++◌, append_assoc}
use Rattle.std.proofs.lemmas.Bool.{cases_lt}
use Rattle.std.proofs.lemmas.List.{drop_all}
use Rattle.std.proofs.lemmas.Nat.Bits.{bit_at_or, bit_at-lt, bit_at-suc, bit_at-zero, bit_at_above, bit_at_lowest, bit_at_cat_low}
use Rattle.std.specs.Int.{bit_at}
use Rattle.object_heap.specs.Bits.{has}

-- a word whose bits are raised by one place, with another lowest bit
abbrev pub raised_word : ℕ → ℕ → ℕ
raised_word w c = bit_or (w * 2 ^ 1 % 18446744073709551616) c

-- the highest bit of a word becomes the lowest of the next
abbrev pub raised : ℕ → List ℕ → List ℕ
raised c [] = c ∷ []
raised c (w ∷ ws) = raised_word w c ∷ raised (w / 2 ^ 63) ws

first-bit : (w c : ℕ) → c < 2 → bit_at (raised_word w c) 0 ≡ c
first-bit w c few =
    let low : w * 2 ^ 1 % 18446744073709551616 % 2 ≡ 0 = omega arith in
    let one : c % 2 ≡ c = omega arith in
    bit_at_or (w * 2 ^ 1 % 18446744073709551616) c 0
    ∙ ap (λ n. max n (bit_at c 0)) (bit_at_lowest (w * 2 ^ 1 % 18446744073709551616) ∙ low)
    ∙ ap (max 0) (bit_at_lowest c ∙ one)
    ∙ omega arith

above-one : (c j : ℕ) → c < 2 → 0 < j → bit_at c j ≡ 0
above-one c j few some = bit_at_above c 1 j few some

other-bit : (w c j : ℕ) → c < 2 → j < 63 → bit_at (raised_word w c) (j + 1) ≡ bit_at w j
other-bit w c j few l =
    let half : w * 2 ^ 1 % 18446744073709551616 / 2 ≡ w % 9223372036854775808 = omega arith in
    let whole : w / 9223372036854775808 * 9223372036854775808 + w % 9223372036854775808 ≡ w = omega arith in
    let bit = bit_at-lt w j in
    bit_at_or (w * 2 ^ 1 % 18446744073709551616) c (j + 1)
    ∙ ap (max (bit_at (w * 2 ^ 1 % 18446744073709551616) (j + 1))) (above-one c (j + 1) few (omega arith))
    ∙ ap (λ n. max (bit_at (w * 2 ^ 1 % 18446744073709551616) n) 0) (add-one j)
    ∙ ap (λ n. max n 0) (bit_at-suc (w * 2 ^ 1 % 18446744073709551616) j ∙ ap (λ n. bit_at n j) half ∙ sym (bit_at_cat_low (w / 9223372036854775808) 63 (w % 9223372036854775808) j l) ∙ ap (λ n. bit_at n j) whole)
    ∙ omega arith

has-first : (w n : ℕ) (ws : List ℕ) → n < 64 → has (w ∷ ws) n ≡ eqb (bit_at w n) 1
has-first w n ws l =
    let row : n / 64 ≡ 0 = omega arith in
    let place : n % 64 ≡ n = omega arith in
    ap (λ r. eqb (bit_at (get_or (w ∷ ws) r 0) (n % 64)) 1) row ∙ ap (λ k. eqb (bit_at w k) 1) place

has-next : (w m : ℕ) (ws : List ℕ) → has (w ∷ ws) (64 + m) ≡ has ws m
has-next w m ws =
    let row : (64 + m) / 64 ≡ suc (m / 64) = omega arith in
    let place : (64 + m) % 64 ≡ m % 64 = omega arith in
    ap (λ r. eqb (bit_at (get_or (w ∷ ws) r 0) ((64 + m) % 64)) 1) row ∙ ap (λ k. eqb (bit_at (get_or ws (m / 64) 0) k) 1) place

has-none : (n : ℕ) → has [] n ≡ false
has-none n = ap (λ b. eqb b 1) (bit_at-zero (n % 64))

pub has_raised-zero : (c : ℕ) (ws : List ℕ) → c < 2 → has (raised c ws) 0 ≡ eqb c 1
has_raised-zero c [] few = let one : c % 2 ≡ c = omega arith in has-first c 0 [] (omega arith) ∙ ap (λ b. eqb b 1) (bit_at_lowest c ∙ one)
has_raised-zero c (w ∷ ws) few = has-first (raised_word w c) 0 (raised (w / 2 ^ 63) ws) (omega arith) ∙ ap (λ b. eqb b 1) (first-bit w c few)

pub has_raised : (c : ℕ) (ws : List ℕ) → c < 2 → ((i : ℕ) → get_or ws i 0 < 2 ^ 64) → (k : ℕ) → has (raised c ws) (k + 1) ≡ has ws k
has_raised c [] few fits k = elim (cases_lt (k + 1) 64) [
  | inl low ↦ has-first c (k + 1) [] low ∙ ap (λ b. eqb b 1) (above-one c (k + 1) few (omega arith)) ∙ sym (has-none k)
  | inr high ↦
      let m : ℕ = k + 1 - 64 in
      let at : k + 1 ≡ 64 + m = omega arith in
      ap (has (c ∷ [])) at ∙ has-next c m [] ∙ has-none m ∙ sym (has-none k)
]
has_raised c (w ∷ ws) few fits k =
    let next : List ℕ = raised (w / 2 ^ 63) ws in
    let word : w < 2 ^ 64 = fits 0 in
    let less : w / 9223372036854775808 < 2 = omega arith in
    let more : (i : ℕ) → get_or ws i 0 < 2 ^ 64 = λ i. fits (suc i) in
    elim (cases_lt (k + 1) 64) [
      | inl low ↦ has-first (raised_word w c) (k + 1) next low ∙ ap (λ b. eqb b 1) (other-bit w c k few (omega arith)) ∙ sym (has-first w k ws (omega arith))
      | inr high ↦ elim (cases_lt (k + 1) 65) [
        | inl border ↦
            let at : k + 1 ≡ 64 + 0 = omega arith in
            let place : 63 ≡ k = omega arith in
            ap (has (raised_word w c ∷ next)) at ∙ has-next (raised_word w c) 0 next ∙ has_raised-zero (w / 2 ^ 63) ws less ∙ ap (λ b. eqb b 1) (top w word) ∙ sym (has-first w 63 ws (omega arith)) ∙ ap (has (w ∷ ws)) place
        | inr past ↦
            let m : ℕ = k - 64 in
            let at : k + 1 ≡ 64 + (m + 1) = omega arith in
            let place : 64 + m ≡ k = omega arith in
            ap (has (raised_word w c ∷ next)) at ∙ has-next (raised_word w c) (m + 1) next ∙ has_raised (w / 2 ^ 63) ws less more m ∙ sym (has-next w m ws) ∙ ap (has (w ∷ ws)) place
      ]
    ]
  where
    top : (v : ℕ) → v < 2 ^ 64 → v / 2 ^ 63 ≡ bit_at v 63
    top v l = let few : v / 9223372036854775808 % 2 ≡ v / 9223372036854775808 = omega arith in sym few

pub length-raised : (c : ℕ) (ws : List ℕ) → length (raised c ws) ≡ length ws + 1
length-raised c [] = refl
length-raised c (w ∷ ws) = let rest = length-raised (w / 2 ^ 63) ws in omega arith

-- ---- the same, as the code makes it

-- with one word more
pub raised_more : (new more ws : List ℕ) (c i : ℕ) → i < length ws → more ≡ new ++ raised_word (get_or ws i 0) c ∷ [] → new ++ raised c (drop i ws) ≡ raised 1 ws → more ++ raised (get_or ws i 0 / 2 ^ 63) (drop (i + 1) ws) ≡ raised 1 ws
raised_more new more ws c i l e so_far =
    let w : ℕ = get_or ws i 0 in
    ap (λ xs. xs ++ raised (w / 2 ^ 63) (drop (i + 1) ws)) e
    ∙ append_assoc new (raised_word w c ∷ []) (raised (w / 2 ^ 63) (drop (i + 1) ws))
    ∙ ap (λ n. new ++ (raised_word w c ∷ raised (w / 2 ^ 63) (drop n ws))) (add-one i)
    ∙ ap (λ xs. new ++ raised c xs) (sym (drop-cons ws i 0 l))
    ∙ so_far

-- with all words
pub raised_all : (new all ws : List ℕ) (c i : ℕ) → length ws ≤ i → all ≡ new ++ c ∷ [] → new ++ raised c (drop i ws) ≡ raised 1 ws → all ≡ raised 1 ws
raised_all new all ws c i past e so_far = e ∙ ap (λ xs. new ++ raised c xs) (sym (drop_all i ws past)) ∙ so_far
