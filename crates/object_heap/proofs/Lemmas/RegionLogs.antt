-- The size of a region, by its logarithm.
use Rattle.std.proofs.Common.{◌≡◌, ℕ, ◌-◌, ◌*◌, ◌%◌, ◌^◌, ◌≤◌, ◌<◌, ◌∙◌, ap, arith, bit_and}
use Rattle.std.proofs.lemmas.Nat.{and_mask, pow_below}
use Rattle.std.proofs.Math.Nat.{one-le-pow, mod-eq_of_lt, pow-le-pow_right}

pub region_some : (log : ℕ) → 0 < 2 ^ log
region_some log = let h : 1 ≤ 2 ^ log = one-le-pow log 2 (omega arith) in omega arith

-- the words of a region, as they are shifted
pub region_few : (log : ℕ) → log ≤ 20 → 1 * 2 ^ log % 18446744073709551616 ≤ 1048576
region_few log high =
    let few : 2 ^ log ≤ 2 ^ 20 = pow-le-pow_right {n = 2} (omega arith) high in
    let same : 1 * 2 ^ log % 18446744073709551616 ≡ 1 * 2 ^ log = mod-eq_of_lt (omega arith) in
    omega arith

-- the mask of a place in a region
pub place_by_mask : (log a : ℕ) → log ≤ 20 → bit_and a (1 * 2 ^ log % 18446744073709551616 - 1) ≡ a % 2 ^ log
place_by_mask log a high =
    let below : 2 ^ log < 2 ^ 21 = pow_below log 21 (omega arith) in
    let one : 1 * 2 ^ log ≡ 2 ^ log = omega arith in
    let fits : 1 * 2 ^ log < 18446744073709551616 = omega arith in
    ap (λ n. bit_and a (n - 1)) (mod-eq_of_lt fits ∙ one) ∙ and_mask a log
