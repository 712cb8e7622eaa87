-- Fields of headers, by masks.
use Rattle.std.proofs.Common.{◌≡◌, ℕ, ◌+◌, ◌-◌, ◌*◌, ◌/◌, ◌%◌, ◌^◌, ◌≤◌, ◌<◌, sym, ◌∙◌, ap, subst, arith, bit_and}
use Rattle.std.proofs.lemmas.Nat.{and_mask, one_shl, pow_pos, mod_below, pow-add, mod-pow-add, div-add-mod', div_below}
use Rattle.std.proofs.Math.Nat.{mul-le-mul_right}

-- the lowest bits of a number, by their mask
pub masked : (n bits mask : ℕ) → mask ≡ 2 ^ bits - 1 → bit_and n mask ≡ n % 2 ^ bits
masked n bits mask is = ap (bit_and n) is ∙ and_mask n bits

-- the mask of some lowest bits
pub mask_is : (bits : ℕ) → bits < 64 → 1 * 2 ^ bits % 18446744073709551616 - 1 ≡ 2 ^ bits - 1
mask_is bits low = ap (λ n. n - 1) (one_shl bits 64 low)

-- a number in bits that are clear
pub field_fits : (tag x shift bits : ℕ) → tag < 2 ^ 64 → tag / 2 ^ shift % 2 ^ bits ≡ 0 → x < 2 ^ bits → shift + bits ≤ 64 → tag + x * 2 ^ shift < 2 ^ 64
field_fits tag x shift bits fits clear below inside =
    let whole : 2 ^ (64 - (bits + shift)) * 2 ^ (bits + shift) ≡ 2 ^ (64 - (bits + shift) + (bits + shift)) = sym (pow-add 2 (64 - (bits + shift)) (bits + shift)) in
    let all : 64 - (bits + shift) + (bits + shift) ≡ 64 = omega arith in
    let same : 2 ^ (64 - (bits + shift)) * 2 ^ (bits + shift) ≡ 2 ^ 64 = whole ∙ ap (λ n. 2 ^ n) all in
    let low : tag % 2 ^ (bits + shift) ≡ tag % 2 ^ shift = mod-pow-add tag bits shift ∙ ap (λ n. n * 2 ^ shift + tag % 2 ^ shift) clear ∙ omega arith in
    let few : tag % 2 ^ shift < 2 ^ shift = mod_below tag (2 ^ shift) (pow_pos shift) in
    let is : tag / 2 ^ (bits + shift) * 2 ^ (bits + shift) + tag % 2 ^ (bits + shift) ≡ tag = div-add-mod' tag (2 ^ (bits + shift)) in
    let high : tag / 2 ^ (bits + shift) < 2 ^ (64 - (bits + shift)) = div_below tag (2 ^ (bits + shift)) (2 ^ (64 - (bits + shift))) (pow_pos (bits + shift)) (subst (λ n. tag < n) (sym same) fits) in
    let room : (tag / 2 ^ (bits + shift) + 1) * 2 ^ (bits + shift) ≤ 2 ^ (64 - (bits + shift)) * 2 ^ (bits + shift) = mul-le-mul_right (2 ^ (bits + shift)) (let l : tag / 2 ^ (bits + shift) + 1 ≤ 2 ^ (64 - (bits + shift)) = omega arith in l) in
    let one : (tag / 2 ^ (bits + shift) + 1) * 2 ^ (bits + shift) ≡ tag / 2 ^ (bits + shift) * 2 ^ (bits + shift) + 2 ^ (bits + shift) = add_one (tag / 2 ^ (bits + shift)) (2 ^ (bits + shift)) in
    let put : (x + 1) * 2 ^ shift ≤ 2 ^ bits * 2 ^ shift = mul-le-mul_right (2 ^ shift) (let l : x + 1 ≤ 2 ^ bits = omega arith in l) in
    let more : (x + 1) * 2 ^ shift ≡ x * 2 ^ shift + 2 ^ shift = add_one x (2 ^ shift) in
    let joined : 2 ^ (bits + shift) ≡ 2 ^ bits * 2 ^ shift = pow-add 2 bits shift in
    omega arith
  where
    add_one : (n m : ℕ) → (n + 1) * m ≡ n * m + m
    add_one n m = omega arith
