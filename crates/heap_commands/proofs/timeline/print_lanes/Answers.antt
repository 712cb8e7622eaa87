use Rattle.std.proofs.Common.{◌∙◌, ap, sym, subst}
use Rattle.heap_commands.specs.Timeline.{IsTimeline}
use Rattle.heap_commands.proofs.Lemmas.Timelines.{lanes_are_a_timeline}
use Rattle.heap_commands.proofs.timeline.print_lanes.Goals as goal

pub returns-in-Ok : goal.returns-in-Ok
returns-in-Ok g c =
    subst IsTimeline (sym (ap (λ v. v.items) (c.printing.ensures ∙ c.into_bytes.ensures.value))) (lanes_are_a_timeline _ _ _ _ c.in-Ok.ensures.lanes)
