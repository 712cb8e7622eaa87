use Rattle.std.proofs.lemmas.Result.{IfOk-weaker}
use Rattle.heap_commands.proofs.timeline.lanes_text.Goals as goal

pub returns-clause-lanes : goal.returns-clause-lanes
returns-clause-lanes g c =
    IfOk-weaker c.lanes_of.result _ _
    (λ text begins. (c.in_ok-followed.followed.timeline, c.in_ok-followed.ensures.timeline, begins)) c.lanes_of.ensures.lanes
