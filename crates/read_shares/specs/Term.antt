-- What a term owns: all of its lifetime's token, before anything is lent for it.
use Rattle.std.specs.Prelude.{ℕ}
use Rattle.std.specs.Borrow.{full_share}
use Rattle.read_shares.specs.ReadShare.{term}
use base.Fml.{Fml, flft}

abbrev pub term_owns : ℕ → Fml
term_owns origin = flft (term origin) full_share
