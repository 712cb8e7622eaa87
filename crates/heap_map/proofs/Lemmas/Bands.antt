-- How many words the regions of a band have.
use Rattle.std.proofs.Common.{◌≤◌, ◌+◌, ◌*◌, ◌<◌, ℕ, arith}
use Rattle.std.proofs.Math.Nat.{div-le_self, mul-le-mul_right}
use Rattle.std.specs.Int.{div_ceil}

pub ceil_few : (x y : ℕ) → div_ceil x y ≤ x + 1
ceil_few x y = omega (arith, div-le_self x y)

pub small_product : (n words : ℕ) → n ≤ 68719476738 → words ≤ 1048576 → n * words < 18446744073709551616
small_product n words few small = omega (arith, mul-le-mul_right {m = n} {n = 68719476738} words few)
