use Rattle.std.proofs.Common.{◌≡◌, ◌<◌, length, true, false, sym, ◌∙◌}
use Rattle.std.specs.Prelude.{slice_index_or}
use Rattle.std.proofs.lemmas.List.{get_or_default}
use Rattle.scheduler.specs.MoveIndex.{IsPlaceOf}
use Rattle.scheduler.specs.Scheduler.{SchedulerView, IsKept, IsPendingAt}
use Rattle.scheduler.proofs.Lemmas.Stepping.{drained_pair, open_of}
use Rattle.scheduler.proofs.scheduler.Scheduler.pending_place.Goals as goal

pub returns-then-index-clause-none : goal.returns-then-index-clause-none
returns-then-index-clause-none c =
    let v : SchedulerView = record { workers = c.self.inside.workers; moves = c.self.inside.moves; flags = c.self.inside.drained.items; progress = c.self.inside.progress.items } in
    let kept : IsKept v c.self.inside.readers_left.items c.self.inside.sources_left.items c.self.inside.unsettled = c.self.invariant in
    let place : IsPlaceOf v.moves.pairs c.args.destination c.args.source c.in_ok-at.at = c.in_ok-at.ensures.found in
    let here : c.in_ok-at.at < length v.flags = rw kept.flags_all place.inside in
    let flag : slice_index_or v.flags c.in_ok-at.at false ≡ true = get_or_default v.flags c.in_ok-at.at false c.index.result.now here ∙ (sym c.index.ensures ∙ c.if-index.true) in
    rw (← c.self.view_is) (drained_pair v c.self.inside.readers_left.items c.self.inside.sources_left.items c.self.inside.unsettled c.args.destination c.args.source c.in_ok-at.at kept place flag)

pub returns-else-index-clause-pending : goal.returns-else-index-clause-pending
returns-else-index-clause-pending c =
    let v : SchedulerView = record { workers = c.self.inside.workers; moves = c.self.inside.moves; flags = c.self.inside.drained.items; progress = c.self.inside.progress.items } in
    let kept : IsKept v c.self.inside.readers_left.items c.self.inside.sources_left.items c.self.inside.unsettled = c.self.invariant in
    let place : IsPlaceOf v.moves.pairs c.args.destination c.args.source c.in_ok-at.at = c.in_ok-at.ensures.found in
    let here : c.in_ok-at.at < length v.flags = rw kept.flags_all place.inside in
    let flag : slice_index_or v.flags c.in_ok-at.at false ≡ false = get_or_default v.flags c.in_ok-at.at false c.index.result.now here ∙ (sym c.index.ensures ∙ c.if-index.false) in
    let found : IsPendingAt v c.args.destination c.args.source c.in_ok-at.at = record { inside = place.inside; is = place.is; undrained = flag } in
    rw (← c.self.view_is) (open_of v c.self.inside.readers_left.items c.self.inside.sources_left.items c.self.inside.unsettled c.args.destination c.args.source c.in_ok-at.at kept found).pending
