-- The row of a region as the table keeps it.
use Rattle.std.specs.Prelude.{ℕ, zero, suc, Option, Some, None}

-- a source that is kept counted from 1; 0 for none
abbrev pub source_of : ℕ → Option ℕ
source_of zero = None
source_of (suc s) = Some s
