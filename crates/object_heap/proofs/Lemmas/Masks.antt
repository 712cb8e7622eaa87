-- The bits of the masks of a run.
use Rattle.std.proofs.Common.{◌≡◌, ℕ, ◌-◌, ◌*◌, ◌%◌, ◌^◌, ◌<◌, inl, inr, eqb, leb, sym, ◌∙◌, ap, arith}
use Rattle.std.specs.Int.{bit_at}
use Rattle.std.proofs.lemmas.Bool.{cases_eq, cases_lt, eq-eqb, ne_eqb, le-leb, lt-leb}
use Rattle.std.proofs.lemmas.Nat.{one_shl}
use Rattle.std.proofs.lemmas.Nat.Bits.{ones_shl, bit_at_mask_inside, bit_at_mask_below, bit_at-pow_same, bit_at-pow_other}

-- the bits from s on
abbrev pub low_mask : ℕ → ℕ
low_mask s = 18446744073709551615 * 2 ^ s % 18446744073709551616

abbrev pub one_bit : ℕ → ℕ
one_bit s = 1 * 2 ^ s % 18446744073709551616

pub low_mask-bit : (s j : ℕ) → s < 64 → j < 64 → eqb (bit_at (low_mask s) j) 1 ≡ leb s j
low_mask-bit s j h k =
    let is : low_mask s ≡ 2 ^ 64 - 2 ^ s = ones_shl 64 s (omega arith) in
    ap (λ n. eqb (bit_at n j) 1) is ∙ elim (cases_lt j s) [
      | inl below ↦ ap (λ n. eqb n 1) (bit_at_mask_below s 64 j below) ∙ sym (lt-leb s j below)
      | inr inside ↦ ap (λ n. eqb n 1) (bit_at_mask_inside s 64 j inside k) ∙ sym (le-leb s j inside)
    ]

pub one_bit-bit : (s j : ℕ) → s < 64 → eqb (bit_at (one_bit s) j) 1 ≡ eqb s j
one_bit-bit s j h =
    ap (λ n. eqb (bit_at n j) 1) (one_shl s 64 h) ∙ elim (cases_eq j s) [
      | inl same ↦ ap (λ n. eqb (bit_at (2 ^ s) n) 1) same ∙ ap (λ n. eqb n 1) (bit_at-pow_same s) ∙ sym (eq-eqb s j (sym same))
      | inr other ↦ ap (λ n. eqb n 1) (bit_at-pow_other s j other) ∙ sym (ne_eqb s j (λ e. other (sym e)))
    ]
