use Rattle.std.proofs.Common.{sym, subst}
use Rattle.std.proofs.lemmas.Result.{IfOk-weaker}
use Rattle.heap_commands.specs.Timeline.{IsTimeline}
use Rattle.heap_commands.proofs.Lemmas.Timelines.{figures_are_a_timeline}
use Rattle.heap_commands.proofs.timeline.write_picture_to.Goals as goal

pub returns-in-Ok : goal.returns-in-Ok
returns-in-Ok g c =
    IfOk-weaker c.ended.result _ _ (λ done is. subst IsTimeline (sym is) (figures_are_a_timeline _ _ _ _ _ _ c.in-Ok.ensures.picture)) c.ended.ensures
