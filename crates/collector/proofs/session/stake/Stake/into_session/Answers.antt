use Rattle.std.proofs.Common.{sym, ◌∙◌}
use Rattle.collector.proofs.session.stake.Stake.into_session.Goals as goal

pub returns-clause-heap : goal.returns-clause-heap
returns-clause-heap c id is =
    let led = is.led c.in_ok-deed.field-0 c.in_ok-deed.was in
    is.heap c.in_ok-session.session
    (sym led.1 ∙ sym c.unite.ensures.value ∙ sym c.into_inner.ensures ∙ c.in_ok-session.was)
