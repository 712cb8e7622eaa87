-- The header of a filler, as code computes it.
use Rattle.std.proofs.Common.{◌≡◌, ℕ, ◌+◌, ◌-◌, ◌*◌, ◌%◌, ◌^◌, ◌≤◌, ◌<◌, ◌∙◌, ap, arith, mul_comm}
use Rattle.std.proofs.lemmas.Nat.{pow_below}
use Rattle.std.proofs.Math.Nat.{mul-le-mul_left, mod-eq_of_lt}
use Rattle.object_heap.specs.Layout.{Coding, IsCoding, coded_filler}
use Rattle.object_coding.proofs.Lemmas.Fields.{field_fits}

module _ (c : Coding) (words n units : ℕ) (lawful : IsCoding c words) (bits_low : c.size_bits < 64) (inside : c.size_shift + c.size_bits ≤ 64) (tag_fits : c.filler_tag < 2 ^ 64)
    (few : n ≤ 2147483648) (are : units ≡ n * 2 ^ c.size_unit % 18446744073709551616 - c.filler_less) where
  most : n * 2 ^ c.size_unit < 2 ^ c.size_bits
  most =
      let large : 2 ^ c.size_unit * 2147483648 < 2 ^ c.size_bits = lawful.large in
      let up : 2 ^ c.size_unit * n ≤ 2 ^ c.size_unit * 2147483648 = mul-le-mul_left (2 ^ c.size_unit) few in
      let turn : n * 2 ^ c.size_unit ≡ 2 ^ c.size_unit * n = mul_comm n (2 ^ c.size_unit) in
      omega arith

  whole : n * 2 ^ c.size_unit % 18446744073709551616 ≡ 2 ^ c.size_unit * n
  whole =
      let below = most in
      let limit : 2 ^ c.size_bits < 2 ^ 64 = pow_below c.size_bits 64 bits_low in
      mod-eq_of_lt (let l : n * 2 ^ c.size_unit < 18446744073709551616 = omega arith in l) ∙ mul_comm n (2 ^ c.size_unit)

  lacking : units ≡ 2 ^ c.size_unit * n - c.filler_less
  lacking = are ∙ ap (λ m. m - c.filler_less) whole

  there : c.filler_tag + units * 2 ^ c.size_shift < 2 ^ 64
  there =
      let below = most in
      let is = lacking in
      let turn : n * 2 ^ c.size_unit ≡ 2 ^ c.size_unit * n = mul_comm n (2 ^ c.size_unit) in
      field_fits c.filler_tag units c.size_shift c.size_bits tag_fits lawful.apart (let l : units < 2 ^ c.size_bits = omega arith in l) inside

  shifted : units * 2 ^ c.size_shift % 18446744073709551616 ≡ units * 2 ^ c.size_shift
  shifted = mod-eq_of_lt (let l = there in let e : units * 2 ^ c.size_shift < 18446744073709551616 = omega arith in e)

  pub filler_fits : c.filler_tag + units * 2 ^ c.size_shift % 18446744073709551616 < 18446744073709551616
  filler_fits = let l = there in let e = shifted in omega arith

  pub filler_is : c.filler_tag + units * 2 ^ c.size_shift % 18446744073709551616 ≡ coded_filler c n
  filler_is = ap (λ m. c.filler_tag + m) (shifted ∙ mul_comm units (2 ^ c.size_shift) ∙ ap (λ m. 2 ^ c.size_shift * m) lacking)
