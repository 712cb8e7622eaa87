use Rattle.std.proofs.Common.{◌≡◌}
use Rattle.std.specs.Prelude.{slice_index_or}
use Rattle.scheduler.specs.Scheduler.{SchedulerView, IsKept}
use Rattle.scheduler.specs.declared.scheduler.progress.Progress.TheVariants.{Unclaimed, Completed}
use Rattle.scheduler.proofs.Lemmas.Stepping.{settles}
use Rattle.scheduler.proofs.scheduler.Scheduler.settle.Goals as goal

pub overflow_sub-self : goal.overflow_sub-self
overflow_sub-self c =
    let v : SchedulerView = record { workers = c.self.inside.workers; moves = c.self.inside.moves; flags = c.self.inside.drained.items; progress = c.self.inside.progress.items } in
    let kept : IsKept v c.self.inside.readers_left.items c.self.inside.sources_left.items c.self.inside.unsettled = c.self.invariant in
    let own : slice_index_or v.progress c.args.destination Unclaimed ≡ Completed c.args.worker = rw (← c.self.view_is) at (c.is_at.ensures.0 c.if-not-is_at.false) in
    (settles v c.self.inside.readers_left.items c.self.inside.sources_left.items c.self.inside.unsettled c.args.worker c.args.destination kept own).some

pub invariant_of-self : goal.invariant_of-self
invariant_of-self c =
    let v : SchedulerView = record { workers = c.self.inside.workers; moves = c.self.inside.moves; flags = c.self.inside.drained.items; progress = c.self.inside.progress.items } in
    let kept : IsKept v c.self.inside.readers_left.items c.self.inside.sources_left.items c.self.inside.unsettled = c.self.invariant in
    let own : slice_index_or v.progress c.args.destination Unclaimed ≡ Completed c.args.worker = rw (← c.self.view_is) at (c.is_at.ensures.0 c.if-not-is_at.false) in
    (settles v c.self.inside.readers_left.items c.self.inside.sources_left.items c.self.inside.unsettled c.args.worker c.args.destination kept own).kept

pub returns : goal.returns
returns c =
    let v : SchedulerView = record { workers = c.self.inside.workers; moves = c.self.inside.moves; flags = c.self.inside.drained.items; progress = c.self.inside.progress.items } in
    let kept : IsKept v c.self.inside.readers_left.items c.self.inside.sources_left.items c.self.inside.unsettled = c.self.invariant in
    let own : slice_index_or v.progress c.args.destination Unclaimed ≡ Completed c.args.worker = rw (← c.self.view_is) at (c.is_at.ensures.0 c.if-not-is_at.false) in
    rw (← c.self.view_is) ((settles v c.self.inside.readers_left.items c.self.inside.sources_left.items c.self.inside.unsettled c.args.worker c.args.destination kept own).steps c.all_or_more.result c.all_or_more.ensures)
