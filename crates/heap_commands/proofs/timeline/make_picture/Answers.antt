use Rattle.std.proofs.lemmas.Result.{IfOk-weaker}
use Rattle.heap_commands.proofs.timeline.make_picture.Goals as goal

pub returns-clause-picture : goal.returns-clause-picture
returns-clause-picture g c =
    IfOk-weaker c.picture_of.result _ _
    (λ picture is. (c.in_ok-followed.followed.timeline, c.in_ok-followed.ensures.timeline, is)) c.picture_of.ensures.picture
