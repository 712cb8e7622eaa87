-- The last bit below a place.
use Rattle.std.proofs.Common.{◌≡◌, ℕ, ◌+◌, ◌-◌, ◌*◌, ◌/◌, ◌%◌, ◌^◌, ◌≤◌, ◌<◌, inl, inr, Bool, true, false, ◌&&◌, eqb, ltb, List, get_or, refl, sym, ◌∙◌, ap, arith, bit_and}
use Rattle.std.specs.Int.{bit_at}
use Rattle.std.proofs.lemmas.Bool.{true≢false, cases_lt, and_parts, lt-ltb, le-ltb, ltb-true}
use Rattle.std.proofs.lemmas.Nat.{one_shl}
use Rattle.std.proofs.lemmas.Nat.Bits.{bit_at_and, bit_at-lt, bit_at-zero, bit_at_ones, bit_at_ones_above}
use Rattle.object_heap.specs.Bits.{has, IsLastBelow}
use Rattle.object_heap.proofs.Lemmas.Places.{same_tests, min-is_one}

-- the bits below s
abbrev pub high_mask : ℕ → ℕ
high_mask s = 1 * 2 ^ s % 18446744073709551616 - 1

-- rest has those bits of the word with index i that lie below the limit
abbrev pub IsUpTo : List ℕ → ℕ → ℕ → ℕ → Type 0
IsUpTo words limit i rest = (j : ℕ) → j < 64 → eqb (bit_at rest j) 1 ≡ (has words (64 * i + j) && ltb (64 * i + j) limit)

-- no bit below the limit is set in a word behind the one with index i
abbrev pub NoneBehind : List ℕ → ℕ → ℕ → Type 0
NoneBehind words limit i = (k : ℕ) → k < limit → i < k / 64 → has words k ≡ false

left_fails : (a b : Bool) → (a && b) ≡ false → b ≡ true → a ≡ false
left_fails true b h k = absurd (true≢false (sym k ∙ h))
left_fails false b h k = refl

pub IsLastBelow-in_word : (words : List ℕ) (limit i rest place : ℕ) → IsUpTo words limit i rest → NoneBehind words limit i → place < 64 → bit_at rest place ≡ 1 → ((j : ℕ) → place < j → bit_at rest j ≡ 0) → IsLastBelow (has words) limit (64 * i + place)
IsLastBelow-in_word words limit i rest place is none small set greatest =
    let both = and_parts (has words (64 * i + place)) (ltb (64 * i + place) limit) (sym (is place small) ∙ ap (λ n. eqb n 1) set) in
    record {
      below = ltb-true (64 * i + place) limit both.1;
      passes = both.0;
      greatest = λ k f b. behind k f b;
    }
  where
    behind : (k : ℕ) → 64 * i + place < k → k < limit → has words k ≡ false
    behind k f b = elim (cases_lt i (k / 64)) [
      | inl later ↦ none k b later
      | inr here ↦
          let at : 64 * i + k % 64 ≡ k = omega arith in
          let fails : (has words k && ltb k limit) ≡ false = ap (λ n. has words n && ltb n limit) (sym at) ∙ sym (is (k % 64) (omega arith)) ∙ ap (λ n. eqb n 1) (greatest (k % 64) (omega arith)) in
          left_fails (has words k) (ltb k limit) fails (lt-ltb k limit b)
    ]

-- the bits of the last word below the limit
pub IsUpTo-last : (words : List ℕ) (limit word : ℕ) → word ≡ get_or words (limit / 64) 0 → IsUpTo words limit (limit / 64) (bit_and word (high_mask (limit % 64)))
IsUpTo-last words limit word is j l =
    let q : ℕ = limit / 64 in
    let e : (64 * q + j) / 64 ≡ q = omega arith in
    let f : (64 * q + j) % 64 ≡ j = omega arith in
    ap (λ n. eqb n 1) (bit_at_and word (high_mask (limit % 64)) j)
    ∙ min-is_one (bit_at word j) (bit_at (high_mask (limit % 64)) j) (bit_at-lt word j) (bit_at-lt (high_mask (limit % 64)) j)
    ∙ ap (λ b. eqb (bit_at word j) 1 && b) (mask-bit (limit % 64) (omega arith) ∙ same_place)
    ∙ ap (λ n. eqb (bit_at n j) 1 && ltb (64 * q + j) limit) (is ∙ ap (λ n. get_or words n 0) (sym e))
    ∙ ap (λ n. eqb (bit_at (get_or words ((64 * q + j) / 64) 0) n) 1 && ltb (64 * q + j) limit) (sym f)
  where
    mask-bit : (s : ℕ) → s < 64 → eqb (bit_at (high_mask s) j) 1 ≡ ltb j s
    mask-bit s h =
        ap (λ n. eqb (bit_at (n - 1) j) 1) (one_shl s 64 h) ∙ elim (cases_lt j s) [
          | inl below ↦ ap (λ n. eqb n 1) (bit_at_ones s j below) ∙ sym (lt-ltb j s below)
          | inr above ↦ ap (λ n. eqb n 1) (bit_at_ones_above s j above) ∙ sym (le-ltb j s above)
        ]

    same_place : ltb j (limit % 64) ≡ ltb (64 * (limit / 64) + j) limit
    same_place = same_tests (ltb j (limit % 64)) (ltb (64 * (limit / 64) + j) limit)
        (λ h. let a : j < limit % 64 = ltb-true j (limit % 64) h in lt-ltb (64 * (limit / 64) + j) limit (omega arith))
        (λ h. let a : 64 * (limit / 64) + j < limit = ltb-true (64 * (limit / 64) + j) limit h in lt-ltb j (limit % 64) (omega arith))

-- a word before the last
pub IsUpTo-before : (words : List ℕ) (limit i word : ℕ) → i < limit / 64 → word ≡ get_or words i 0 → IsUpTo words limit i word
IsUpTo-before words limit i word before is j l =
    let e : (64 * i + j) / 64 ≡ i = omega arith in
    let f : (64 * i + j) % 64 ≡ j = omega arith in
    ap (λ n. eqb (bit_at n j) 1) (is ∙ ap (λ n. get_or words n 0) (sym e))
    ∙ ap (λ n. eqb (bit_at (get_or words ((64 * i + j) / 64) 0) n) 1) (sym f)
    ∙ passes (has words (64 * i + j)) (ltb (64 * i + j) limit) (lt-ltb (64 * i + j) limit (omega arith))
  where
    passes : (a b : Bool) → b ≡ true → a ≡ (a && b)
    passes true b h = sym h
    passes false b h = refl

pub NoneBehind-last : (words : List ℕ) (limit : ℕ) → NoneBehind words limit (limit / 64)
NoneBehind-last words limit k b l = let no : ⊥ = omega arith in absurd no

-- no bit is set in the last word below the limit
pub none-last : (words : List ℕ) (limit rest : ℕ) → IsUpTo words limit (limit / 64) rest → rest ≡ 0 → (k : ℕ) → k < limit → limit / 64 ≤ k / 64 → has words k ≡ false
none-last words limit rest is none k b l =
    let at : 64 * (limit / 64) + k % 64 ≡ k = omega arith in
    let fails : (has words k && ltb k limit) ≡ false = ap (λ n. has words n && ltb n limit) (sym at) ∙ sym (is (k % 64) (omega arith)) ∙ ap (λ n. eqb (bit_at n (k % 64)) 1) none ∙ ap (λ n. eqb n 1) (bit_at-zero (k % 64)) in
    left_fails (has words k) (ltb k limit) fails (lt-ltb k limit b)

-- no bit is set in words of 0
pub none-zero : (words : List ℕ) (k : ℕ) → get_or words (k / 64) 0 ≡ 0 → has words k ≡ false
none-zero words k zero = ap (λ w. eqb (bit_at w (k % 64)) 1) zero ∙ ap (λ b. eqb b 1) (bit_at-zero (k % 64))
