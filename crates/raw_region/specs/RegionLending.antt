-- What a region holds once a `&mut` to its words has ended.
use Rattle.std.specs.Prelude.{ℕ, List}
use Rattle.std.specs.Borrow.{Fml, MutBor, Array, Lends, u64}
use Rattle.raw_region.specs.contracts.region.Region.{the_row}

-- the region ends with the words that r is left with
abbrev pub LendsRegion : MutBor (List ℕ) → MutBor (List ℕ) → Fml
LendsRegion region r = Lends the_row (Array u64 0) region r (λ ws. ws)
