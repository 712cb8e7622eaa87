use Rattle.std.proofs.Common.{subst}
use Rattle.std.specs.Prelude.{IsTrue, ◌↔◌}
use Rattle.scheduler.specs.State.{State, AllAreSettled}
use Rattle.scheduler.specs.History.{state_of}
use Rattle.scheduler.specs.Schedule.{entries_of}
use Rattle.scheduler.proofs.scheduler.book.Book.is_done.Goals as goal

pub returns : goal.returns
returns c =
    let done : IsTrue c.is_done.result ↔ AllAreSettled c.self.inside.scheduler.moves (state_of (entries_of c.self.inside.lines.items)) =
    subst (λ (s : State). IsTrue c.is_done.result ↔ AllAreSettled c.self.inside.scheduler.moves s) c.self.invariant.leads c.is_done.ensures in
    rw (← c.self.view_is) done
