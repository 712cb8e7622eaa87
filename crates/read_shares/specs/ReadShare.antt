-- What a share owns, and what a `&` to it lends. A value that is shared out is lent for a lifetime of its own, which ends
-- when all parts of it are back: a part of the value is a part of the lifetime's token.
use Rattle.std.specs.Prelude.{ℕ, [], ◌∷◌}
use Rattle.std.specs.Ptr.{Ptr}
use Rattle.read_shares.specs.Fraction.{fraction}
use Rattle.read_shares.specs.Parts.{IsSome}
use base.Fml.{Fml, Lft, fex, flft, fsep, ftrue}
use denote.RattleType.{RattleType}
use denote.Sharing.{beside, held, one}
use denote.Struct.Lending.{lent_at}

-- the lifetime of what was shared out
abbrev pub term : ℕ → Lft
term origin = origin ∷ []

-- parts of a value, which can be read for the whole lifetime
abbrev pub part_owns : (R : RattleType) → Ptr → R.Denot → ℕ → ℕ → Fml
part_owns R p x origin parts = fsep (flft (term origin) (fraction parts)) (lent_at R p x (term origin))

abbrev pub share_owns : (R : RattleType) → Ptr → R.Denot → ℕ → ℕ → Fml
share_owns R p x origin parts = fsep (part_owns R p x origin parts) (fex (IsSome parts) (λ _. ftrue))

-- for the lifetime κ, some fraction of the token, and that the value can be read
abbrev pub share_lends : (R : RattleType) → Ptr → R.Denot → ℕ → Lft → Fml
share_lends R p x origin = beside (one (λ q. flft (term origin) q)) (held (term origin) (lent_at R p x))
