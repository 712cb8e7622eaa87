-- The first of several handles, by which a check ends.
use Rattle.std.proofs.Common.{◌≡◌, List, [], ◌∷◌, length, get_or, refl, ap, arith}
use Rattle.std.specs.Prelude.{option_and_then}
use Rattle.caller_heap.specs.declared.part.Part.{Part}
use Rattle.pcompact_c.specs.Checks.{first_checked}
use Rattle.pcompact_c.specs.Handles.{Handle, HaveSameParts}

-- what it checks is the same where the parts are
pub first_kept : (before after : List Handle) → HaveSameParts before after → first_checked after ≡ first_checked before
first_kept [] [] same = refl
first_kept [] (h ∷ hs) same = absurd (omega (arith, ap length same))
first_kept (h ∷ hs) [] same = absurd (omega (arith, ap length same))
first_kept (h ∷ hs) (g ∷ gs) same = ap (option_and_then (λ (part : Part). part.check)) (ap (λ ps. get_or ps 0 h.2) same)
