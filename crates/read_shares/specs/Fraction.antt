-- Parts as a fraction of a token.
use Rattle.std.specs.Prelude.{ℕ, ◌+◌, ◌-◌, min}
use Rattle.read_shares.specs.Parts.{all_parts}
use native.Mathlib.Nat.{min-le_right}
use native.Mathlib.Omega.{arith}
use base.FractionLaws.{counts_some}
use base.Fml.{Share}

-- the nearest number of parts that a share may have
abbrev pub nearest : ℕ → ℕ
nearest parts = 1 + min (parts - 1) (all_parts - 1)

-- so many of all parts
unfoldable pub fraction : ℕ → Share
fraction parts = let most = min-le_right (parts - 1) (all_parts - 1) in (counts_some 63 (nearest parts) (omega arith) (omega arith)).0
