use Rattle.std.proofs.Common.{◌≡◌, ◌<◌, ◌≤◌, length, ◌∙◌, arith}
use Rattle.std.specs.Prelude.{slice_index}
use Rattle.std.proofs.lemmas.List.{get_or_default}
use Rattle.scheduler.specs.MoveTable.{region_count}
use Rattle.scheduler.specs.State.{readers_left}
use Rattle.scheduler.specs.Scheduler.{SchedulerView, state_in, IsKept}
use Rattle.scheduler.proofs.Lemmas.Stepping.{few_left}
use Rattle.scheduler.proofs.scheduler.Scheduler.readers_left_of.Goals as goal

pub overflow_cast-result : goal.overflow_cast-result
overflow_cast-result c =
    let v : SchedulerView = record { workers = c.self.inside.workers; moves = c.self.inside.moves; flags = c.self.inside.drained.items; progress = c.self.inside.progress.items } in
    let kept : IsKept v c.self.inside.readers_left.items c.self.inside.sources_left.items c.self.inside.unsettled = c.self.invariant in
    let inside : c.args.region < region_count v.moves = rw (← c.self.view_is) at c.requires in
    let is : slice_index c.self.inside.readers_left.items c.args.region ≡ readers_left v.moves (state_in v) c.args.region = kept.counts.readers_are c.args.region inside in
    let here : c.args.region < length c.self.inside.readers_left.items = rw kept.counts.readers_all inside in
    let same : c.index.result.now ≡ slice_index c.self.inside.readers_left.items c.args.region = c.index.ensures ∙ get_or_default c.self.inside.readers_left.items c.args.region c.index.result.now 0 here in
    let few : readers_left v.moves (state_in v) c.args.region ≤ 2 = few_left v.moves (state_in v) c.args.region kept.table in
    omega arith
