-- Words whose bits are moved one place up.
use Rattle.std.proofs.Common.{◌≡◌, ℕ, ◌+◌, ◌-◌, ◌*◌, ◌/◌, ◌%◌, ◌^◌, ◌<◌, ◌≤◌, inl, inr, suc, max, ◌||◌, eqb, List, length, get_or, sym, subst, ◌∙◌, ap, arith, bit_or}
use Rattle.std.proofs.Math.ListN.{set}
use Rattle.std.specs.Int.{bit_at}
use Rattle.std.proofs.lemmas.Bool.{cases_eq, cases_lt, eq-eqb, ne_eqb}
use Rattle.std.proofs.lemmas.List.{get_or-set_same, get_or-set_other}
use Rattle.std.proofs.lemmas.Nat.Bits.{bit_at_or, bit_at-lt, bit_at_lowest, bit_at-suc, bit_at_above, bit_at_cat_low, bit_at-pow_same}
use Rattle.object_heap.specs.Bits.{has}

-- a word moved up, after the word before it
abbrev moved : ℕ → ℕ → ℕ
moved word before = bit_or (word * 2 % 18446744073709551616) (before / 9223372036854775808)

moved_lowest : (word before : ℕ) → bit_at (moved word before) 0 ≡ bit_at before 63
moved_lowest word before =
    let none : bit_at (word * 2 % 18446744073709551616) 0 ≡ 0 = bit_at_lowest (word * 2 % 18446744073709551616) ∙ omega arith in
    let one : bit_at (before / 9223372036854775808) 0 ≡ bit_at before 63 = bit_at_lowest (before / 9223372036854775808) in
    let least : max 0 (bit_at (before / 9223372036854775808) 0) ≡ bit_at (before / 9223372036854775808) 0 = omega arith in
    bit_at_or (word * 2 % 18446744073709551616) (before / 9223372036854775808) 0
    ∙ ap (λ n. max n (bit_at (before / 9223372036854775808) 0)) none
    ∙ least
    ∙ one

moved_higher : (word before j : ℕ) → before < 18446744073709551616 → j < 63 → bit_at (moved word before) (suc j) ≡ bit_at word j
moved_higher word before j fits below =
    let none : bit_at (before / 9223372036854775808) (suc j) ≡ 0 = bit_at_above (before / 9223372036854775808) 1 (suc j) (omega arith) (omega arith) in
    let half : word * 2 % 18446744073709551616 / 2 ≡ word % 9223372036854775808 = omega arith in
    let parts : word / 9223372036854775808 * 9223372036854775808 + word % 9223372036854775808 ≡ word = omega arith in
    let one : bit_at (word * 2 % 18446744073709551616) (suc j) ≡ bit_at word j =
    bit_at-suc (word * 2 % 18446744073709551616) j
    ∙ ap (λ n. bit_at n j) half
    ∙ sym (bit_at_cat_low (word / 9223372036854775808) 63 (word % 9223372036854775808) j below)
    ∙ ap (λ n. bit_at n j) parts in
    let whole : max (bit_at word j) 0 ≡ bit_at word j = omega arith in
    bit_at_or (word * 2 % 18446744073709551616) (before / 9223372036854775808) (suc j)
    ∙ ap (λ n. max (bit_at (word * 2 % 18446744073709551616) (suc j)) n) none
    ∙ ap (λ n. max n 0) one
    ∙ whole

module _ (words set_so_far : List ℕ) (i before : ℕ) (inside : i < length set_so_far) (fits : before < 18446744073709551616)
    (first : i ≡ 0 → before ≡ 9223372036854775808) (later : 0 < i → before ≡ get_or words (i - 1) 0) where
  abbrev next : List ℕ
  next = set set_so_far i (moved (get_or words i 0) before)

  at_zero : (r : ℕ) → r ≡ 0 → i ≡ 0 → eqb (bit_at before 63) 1 ≡ (eqb r 0 || has words (r - 1))
  at_zero r zero start =
      ap (λ n. eqb (bit_at n 63) 1) (first start)
      ∙ ap (λ n. eqb n 1) (bit_at-pow_same 63)
      ∙ ap (λ b. b || has words (r - 1)) (sym (eq-eqb r 0 zero))

  at_lowest : (r : ℕ) → r ≡ 64 * i → 0 < i → eqb (bit_at before 63) 1 ≡ (eqb r 0 || has words (r - 1))
  at_lowest r is some =
      let place : (r - 1) / 64 ≡ i - 1 = omega (arith, is, some) in
      let bit : (r - 1) % 64 ≡ 63 = omega (arith, is, some) in
      ap (λ n. eqb (bit_at n 63) 1) (later some)
      ∙ ap (λ n. eqb (bit_at (get_or words (i - 1) 0) n) 1) (sym bit)
      ∙ ap (λ n. eqb (bit_at (get_or words n 0) ((r - 1) % 64)) 1) (sym place)
      ∙ ap (λ b. b || has words (r - 1)) (sym (ne_eqb r 0 (λ e. omega (arith, is, some, e))))

  at_higher : (r j : ℕ) → r ≡ 64 * i + (j + 1) → j < 63 → eqb (bit_at (get_or words i 0) j) 1 ≡ (eqb r 0 || has words (r - 1))
  at_higher r j is below =
      let place : (r - 1) / 64 ≡ i = omega (arith, is, below) in
      let bit : (r - 1) % 64 ≡ j = omega (arith, is, below) in
      ap (λ n. eqb (bit_at (get_or words i 0) n) 1) (sym bit)
      ∙ ap (λ n. eqb (bit_at (get_or words n 0) ((r - 1) % 64)) 1) (sym place)
      ∙ ap (λ b. b || has words (r - 1)) (sym (ne_eqb r 0 (λ e. omega (arith, is, e))))

  in_next : (r j : ℕ) → r ≡ 64 * i + j → j < 64 → has next r ≡ eqb (bit_at (moved (get_or words i 0) before) j) 1
  in_next r j is below =
      let place : r / 64 ≡ i = omega (arith, is, below) in
      let bit : r % 64 ≡ j = omega (arith, is, below) in
      ap (λ n. eqb (bit_at (get_or next n 0) (r % 64)) 1) place
      ∙ ap (λ w. eqb (bit_at w (r % 64)) 1) (get_or-set_same set_so_far i (moved (get_or words i 0) before) 0 inside)
      ∙ ap (λ n. eqb (bit_at (moved (get_or words i 0) before) n) 1) bit

  in_word : (r : ℕ) → 64 * i ≤ r → r < 64 * (i + 1) → has next r ≡ (eqb r 0 || has words (r - 1))
  in_word r low high = elim (cases_eq r (64 * i)) [
    | inl is ↦
        in_next r 0 (omega (arith, is)) (omega arith)
        ∙ ap (λ n. eqb n 1) (moved_lowest (get_or words i 0) before)
        ∙ elim (cases_eq i 0) [
          | inl start ↦ at_zero r (omega (arith, is, start)) start
          | inr not_start ↦ at_lowest r is (omega arith)
        ]
    | inr higher ↦
        let j : ℕ = r - 64 * i - 1 in
        let is : r ≡ 64 * i + (j + 1) = omega arith in
        let below : j < 63 = omega arith in
        let same : j + 1 ≡ suc j = omega arith in
        in_next r (j + 1) is (omega arith)
        ∙ ap (λ n. eqb (bit_at (moved (get_or words i 0) before) n) 1) same
        ∙ ap (λ n. eqb n 1) (moved_higher (get_or words i 0) before j fits below)
        ∙ at_higher r j is below
  ]

  -- one more word is moved up
  pub moved_on : ((r : ℕ) → r < 64 * i → has set_so_far r ≡ (eqb r 0 || has words (r - 1)))
      → (r : ℕ) → r < 64 * (i + 1) → has next r ≡ (eqb r 0 || has words (r - 1))
  moved_on before_this r high = elim (cases_lt r (64 * i)) [
    | inl old ↦
        let other : r / 64 ≡ i → ⊥ = λ e. omega (arith, old, e) in
        ap (λ w. eqb (bit_at w (r % 64)) 1) (get_or-set_other set_so_far i (r / 64) (moved (get_or words i 0) before) 0 other)
        ∙ before_this r old
    | inr new ↦ in_word r new high
  ]
