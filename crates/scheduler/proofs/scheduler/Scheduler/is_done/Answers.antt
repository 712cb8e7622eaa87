use Rattle.std.proofs.Common.{sym, ◌∙◌}
use Rattle.std.proofs.lemmas.Bool.{eqb-true, eq-eqb}
use Rattle.std.specs.Prelude.{IsTrue, ◌==◌, ◌↔◌}
use Rattle.scheduler.specs.State.{AllAreSettled}
use Rattle.scheduler.specs.Scheduler.{SchedulerView, state_in, IsKept}
use Rattle.scheduler.proofs.Lemmas.Orders.{all_settled, none_unsettled}
use Rattle.scheduler.proofs.scheduler.Scheduler.is_done.Goals as goal

pub returns : goal.returns
returns c =
    let v : SchedulerView = record { workers = c.self.inside.workers; moves = c.self.inside.moves; flags = c.self.inside.drained.items; progress = c.self.inside.progress.items } in
    let kept : IsKept v c.self.inside.readers_left.items c.self.inside.sources_left.items c.self.inside.unsettled = c.self.invariant in
    let done : IsTrue (c.self.inside.unsettled == 0) ↔ AllAreSettled v.moves (state_in v) = (
      λ none. all_settled v.moves (state_in v) (sym kept.counts.left_is ∙ eqb-true c.self.inside.unsettled 0 none),
      λ all. eq-eqb c.self.inside.unsettled 0 (kept.counts.left_is ∙ none_unsettled v.moves (state_in v) all),
    ) in
    rw (← c.self.view_is) done
