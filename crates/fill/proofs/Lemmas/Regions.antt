-- Regions of equal size, by the addresses in them.
use Rattle.std.proofs.Common.{◌≡◌, ℕ, suc, ◌+◌, ◌-◌, ◌*◌, ◌/◌, ◌%◌, ◌^◌, ◌≤◌, ◌<◌, ◌∙◌, ap, arith, bit_and}
use Rattle.std.proofs.lemmas.Nat.{pow_pos, pow_below, and_mask, div-add-mod', mod_below, div-mul-add, le-div, mul-le}
use Rattle.std.proofs.Math.Nat.{mod-eq_of_lt}
use Rattle.object_heap.specs.HeapImage.{HeapImage, region_words}

pub region_is : (R r q : ℕ) → r * R ≤ q → q < r * R + R → q / R ≡ r
region_is R r q l h =
    let o : ℕ = q - r * R in
    let e : q ≡ r * R + o = omega arith in
    ap (λ n. n / R) e ∙ div-mul-add r R o (omega arith)

pub region_low : (R q : ℕ) → q / R * R ≤ q
region_low R q = let w = div-add-mod' q R in omega arith

pub region_high : (R q : ℕ) → 0 < R → q < q / R * R + R
region_high R q some = let w = div-add-mod' q R in let m = mod_below q R some in omega arith

pub region-le : (R a b : ℕ) → 0 < R → a ≤ b → a / R ≤ b / R
region-le R a b some l = let w = region_low R a in le-div (a / R) b R some (omega arith)

pub region_apart : (R a b : ℕ) → a < b → a * R + R ≤ b * R
region_apart R a b l =
    let e : suc a * R ≤ b * R = mul-le (suc a) R b R l (omega arith) in
    let m : suc a * R ≡ a * R + R = omega arith in
    omega arith

pub region_some : (image : HeapImage) → 0 < region_words image
region_some image = pow_pos image.region_log

-- the mask of a place in a region
pub place_by_mask : (log a : ℕ) → log ≤ 20 → bit_and a (1 * 2 ^ log % 18446744073709551616 - 1) ≡ a % 2 ^ log
place_by_mask log a high =
    let below : 2 ^ log < 2 ^ 21 = pow_below log 21 (omega arith) in
    let one : 1 * 2 ^ log ≡ 2 ^ log = omega arith in
    let fits : 1 * 2 ^ log < 18446744073709551616 = omega arith in
    ap (λ n. bit_and a (n - 1)) (mod-eq_of_lt fits ∙ one) ∙ and_mask a log
