-- What a deed owns.
use Rattle.std.specs.Prelude.{ℕ}
use Rattle.std.specs.Borrow.{full_share}
use Rattle.std.specs.Ptr.{Ptr, lies_at}
use Rattle.read_shares.specs.ReadShare.{term}
use base.Fml.{Fml, ftrue, fsep, flent}
use denote.Memory.{lone}
use denote.RattleType.{RattleType}
use denote.RawPtr.{in_block}
use mir.Raw.{raw}
use mir.Syntax.{Ty}

-- the value at p, once the lifetime has ended, and the right to free its block. And p isn't null.
abbrev pub deed_owns : (Ty → Ptr → Fml) → (R : RattleType) → Ptr → R.Denot → ℕ → Fml
deed_owns may_free R p x origin = fsep (flent (term origin) (lies_at R full_share p x)) (fsep (may_free (raw (lone R.mir)) p) (in_block p ftrue))
