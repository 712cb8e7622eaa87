-- How many parts a value has, and a share of it.
use Rattle.std.specs.Prelude.{ℕ, ◌^◌, ◌≤◌}

abbrev pub all_parts : ℕ
all_parts = 2 ^ 63

pub record IsSome (parts : ℕ) : Type 0 where
  pub nonempty : 1 ≤ parts
  pub at_most : parts ≤ all_parts
