-- Each fault has a number.
use Rattle.std.proofs.Common.{◌≡◌, arith}
use Rattle.image_streams.specs.declared.fault.Fault.{Fault}
use Rattle.image_streams.specs.declared.fault.Fault.TheVariants.{TruncatedHeader, Magic, RegionLog, Length, TruncatedBody, LiveOrder, Header, Overlap, Reference, Trailing, Memory, Workers, Io, Schedule, Overwritten, Gate, Root}
use Rattle.pcompact_c.specs.Faults.{number_of}

pub is_numbered : (fault : Fault) → number_of fault ≡ 0 → ⊥
is_numbered TruncatedHeader e = omega (arith, e)
is_numbered Magic e = omega (arith, e)
is_numbered RegionLog e = omega (arith, e)
is_numbered Length e = omega (arith, e)
is_numbered TruncatedBody e = omega (arith, e)
is_numbered (LiveOrder _) e = omega (arith, e)
is_numbered (Header _) e = omega (arith, e)
is_numbered (Overlap _) e = omega (arith, e)
is_numbered (Reference _ _) e = omega (arith, e)
is_numbered Trailing e = omega (arith, e)
is_numbered Memory e = omega (arith, e)
is_numbered Workers e = omega (arith, e)
is_numbered Io e = omega (arith, e)
is_numbered (Schedule _) e = omega (arith, e)
is_numbered (Overwritten _) e = omega (arith, e)
is_numbered Gate e = omega (arith, e)
is_numbered (Root _) e = omega (arith, e)
