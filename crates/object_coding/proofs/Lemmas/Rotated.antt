-- A number that is rotated to the right: its lowest bits become the highest.
use Rattle.std.proofs.Common.{◌≡◌, ℕ, ◌+◌, ◌-◌, ◌*◌, ◌/◌, ◌%◌, ◌^◌, ◌<◌, inl, inr, sym, ◌∙◌, ap, subst, arith, w64, bit_or}
use Rattle.std.specs.Int.{rotate_right}
use Rattle.std.specs.Int.Bits.{or_self}
use Rattle.std.proofs.lemmas.Bool.{cases_eq}
use Rattle.std.proofs.lemmas.Nat.{pow_pos, pow-add, mod_below, mod_low, shr_below, shl_below, shr_split, or_comm, or_shifted}
use Rattle.std.proofs.Math.Nat.{mod-eq_of_lt, add-mul, mul_assoc}

module _ (d u : ℕ) (fits : d < 2 ^ 64) (low : u < 64) where
  abbrev U : ℕ
  U = 2 ^ u

  abbrev V : ℕ
  V = 2 ^ (64 - u)

  sum : 2 ^ (u + (64 - u)) ≡ 2 ^ 64
  sum = ap (λ n. 2 ^ n) (let e : u + (64 - u) ≡ 64 = omega arith in e)

  all : U * V ≡ 2 ^ 64
  all = sym (pow-add 2 u (64 - u)) ∙ sum

  shifted_up : (d * V) % 2 ^ 64 ≡ d % U * V
  shifted_up =
      let split : d * V ≡ (d / U * U + d % U) * V = sym (ap (λ n. n * V) (shr_split d u)) in
      let spread : (d / U * U + d % U) * V ≡ d / U * 2 ^ 64 + d % U * V =
      add-mul (d / U * U) (d % U) V ∙ ap (λ n. n + d % U * V) (mul_assoc (d / U) U V ∙ ap (λ n. d / U * n) all) in
      let below : d % U * V < 2 ^ 64 = subst (λ n. d % U * V < n) sum (shl_below (d % U) u (64 - u) (mod_below d U (pow_pos u))) in
      ap (λ n. n % 2 ^ 64) (split ∙ spread) ∙ mod_low (d / U) 64 (d % U * V) below

  joined : bit_or (d / U) (d % U * V) ≡ d % U * V + d / U
  joined = or_comm (d / U) (d % U * V) ∙ or_shifted (d % U) (64 - u) (d / U) (shr_below d (64 - u) u (subst (λ n. d < 2 ^ n) (let e : 64 ≡ 64 - u + u = omega arith in e) fits))

  same : u % 64 ≡ u
  same = mod-eq_of_lt low

  pub rotated : rotate_right w64 d u ≡ d % U * V + d / U
  rotated = elim (cases_eq u 0) [
    | inl none ↦
        let whole : d % U ≡ 0 = ap (λ k. d % 2 ^ k) none ∙ (let e : d % 1 ≡ 0 = omega arith in e) in
        let one : d / U ≡ d = ap (λ k. d / 2 ^ k) none ∙ (let e : d / 1 ≡ d = omega arith in e) in
        ap (λ k. rotate_right w64 d k) none
        ∙ (let e : bit_or (d / 1) (d * 1 % 2 ^ 64) ≡ bit_or d d = ap (λ n. bit_or n (d * 1 % 2 ^ 64)) (let a : d / 1 ≡ d = omega arith in a) ∙ ap (λ n. bit_or d n) (let a : d * 1 % 2 ^ 64 ≡ d = omega arith in a) in e)
        ∙ or_self d ∙ sym (ap (λ n. n * V + d / U) whole ∙ (let e : 0 * V + d / U ≡ d / U = omega arith in e) ∙ one)
    | inr some ↦
        let up : (64 - u % 64) % 64 ≡ 64 - u = ap (λ k. (64 - k) % 64) same ∙ mod-eq_of_lt (let l : 64 - u < 64 = omega arith in l) in
        ap (λ k. bit_or (d / 2 ^ k) ((d * 2 ^ ((64 - u % 64) % 64)) % 2 ^ 64)) same
        ∙ ap (λ k. bit_or (d / U) ((d * 2 ^ k) % 2 ^ 64)) up
        ∙ ap (λ n. bit_or (d / U) n) shifted_up ∙ joined
  ]
