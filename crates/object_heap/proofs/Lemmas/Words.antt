-- How the bits in words of 64 change.
use Rattle.std.proofs.Common.{◌≡◌, ℕ, ◌/◌, ◌%◌, ◌<◌, inl, inr, ◌&&◌, ◌||◌, eqb, List, length, get_or, sym, ◌∙◌, ap, bit_or}
use Rattle.std.proofs.Math.ListN.{set}
use Rattle.std.specs.Int.{bit_at}
use Rattle.std.proofs.lemmas.Bool.{cases_eq, eq-eqb, ne_eqb, and_left}
use Rattle.std.proofs.lemmas.List.{get_or-set_same, get_or-set_other}
use Rattle.std.proofs.lemmas.Nat.Bits.{bit_at_or, bit_at-lt}
use Rattle.object_heap.specs.Bits.{has}
use Rattle.object_heap.proofs.Lemmas.Places.{or-false, and-true, max-is_one}

-- the bits after a mask was put into one word
pub has-mask : (words : List ℕ) (i word mask k : ℕ) → i < length words → word ≡ get_or words i 0 → has (set words i (bit_or word mask)) k ≡ (has words k || (eqb (k / 64) i && eqb (bit_at mask (k % 64)) 1))
has-mask words i word mask k inside is = elim (cases_eq (k / 64) i) [
  | inl here ↦
      let at : get_or (set words i (bit_or word mask)) (k / 64) 0 ≡ bit_or word mask = ap (λ n. get_or (set words i (bit_or word mask)) n 0) here ∙ get_or-set_same words i (bit_or word mask) 0 inside in
      let was : get_or words (k / 64) 0 ≡ word = ap (λ n. get_or words n 0) here ∙ sym is in
      ap (λ w. eqb (bit_at w (k % 64)) 1) at
      ∙ ap (λ n. eqb n 1) (bit_at_or word mask (k % 64))
      ∙ max-is_one (bit_at word (k % 64)) (bit_at mask (k % 64)) (bit_at-lt word (k % 64)) (bit_at-lt mask (k % 64))
      ∙ ap (λ w. eqb (bit_at w (k % 64)) 1 || eqb (bit_at mask (k % 64)) 1) (sym was)
      ∙ ap (λ b. has words k || b) (and-true (eqb (bit_at mask (k % 64)) 1) ∙ ap (λ b. b && eqb (bit_at mask (k % 64)) 1) (sym (eq-eqb (k / 64) i here)))
  | inr other ↦
      ap (λ w. eqb (bit_at w (k % 64)) 1) (get_or-set_other words i (k / 64) (bit_or word mask) 0 other)
      ∙ or-false (has words k)
      ∙ ap (λ b. has words k || b) (sym (and_left (eqb (k / 64) i) (eqb (bit_at mask (k % 64)) 1) (ne_eqb (k / 64) i other)))
]
