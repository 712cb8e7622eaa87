use Rattle.std.proofs.Common.{subst}
use Rattle.std.specs.Io.KnownBytes.{Appends}
use Rattle.pcompact.proofs.program.carry_out.Goals as goal

pub returns-then-manner-2-clause-prints : goal.returns-then-manner-2-clause-prints
returns-then-manner-2-clause-prints g c = λ name call good.
    let printed = c.in-Ok.ensures.prints name call in
    (printed.0, printed.1, subst (Appends _ _) printed.2 c.in_default.ensures.shown)

pub returns-else-manner-2-clause-prints : goal.returns-else-manner-2-clause-prints
returns-else-manner-2-clause-prints g c = λ name call good.
    let printed = c.in-Ok.ensures.prints name call in
    (printed.0, printed.1, subst (Appends _ _) printed.2 c.in_default.ensures.shown)
