use Rattle.std.proofs.Common.{◌≡◌, ◌<◌, length, ◌∙◌, arith}
use Rattle.std.specs.Prelude.{slice_index, slice_index_or}
use Rattle.std.proofs.lemmas.List.{get_or_default}
use Rattle.std.proofs.lemmas.Bool.{both_ways}
use Rattle.scheduler.specs.MoveTable.{region_count}
use Rattle.scheduler.specs.Scheduler.{SchedulerView, state_in, IsKept, sources_left}
use Rattle.scheduler.specs.declared.scheduler.progress.Progress.TheVariants.{Unclaimed, Filling}
use Rattle.scheduler.specs.declared.event.Event.TheVariants.{Complete}
use Rattle.scheduler.proofs.Lemmas.Stepping.{refused, none_left, begun_inside, filling_of, completes}
use Rattle.scheduler.proofs.scheduler.Scheduler.complete.Goals as goal
use Rattle.scheduler.proofs.scheduler.Scheduler.complete.Goals.{then-not-is_at-via-then-not-is_at, then-not-is_at-via-else-not-is_at+then-index-gt0}

pub returns-then-not-is_at : goal.returns-then-not-is_at
returns-then-not-is_at c =
    let v : SchedulerView = record { workers = c.self.inside.workers; moves = c.self.inside.moves; flags = c.self.inside.drained.items; progress = c.self.inside.progress.items } in
    let kept : IsKept v c.self.inside.readers_left.items c.self.inside.sources_left.items c.self.inside.unsettled = c.self.invariant in
    rw (← c.self.view_is)
    (refused v c.args.worker (Complete c.args.destination) _ (λ allowed.
    elim c.then-not-is_at.branch [
      | then-not-is_at-via-then-not-is_at w ↦ both_ways c.is_at.result w.if-not-is_at.true ((rw (← c.self.view_is) at c.is_at.ensures.1) (filling_of (slice_index_or v.progress c.args.destination Unclaimed) c.args.worker allowed.0.0 allowed.0.1))
      | then-not-is_at-via-else-not-is_at+then-index-gt0 w ↦
          let own : slice_index_or v.progress c.args.destination Unclaimed ≡ Filling c.args.worker = filling_of (slice_index_or v.progress c.args.destination Unclaimed) c.args.worker allowed.0.0 allowed.0.1 in
          let inside : c.args.destination < length v.progress = begun_inside v.progress c.args.destination (Filling c.args.worker) own (λ e. cc) in
          let inside' : c.args.destination < region_count v.moves = rw (← kept.progress_all) inside in
          let is : slice_index c.self.inside.sources_left.items c.args.destination ≡ sources_left v.moves (state_in v) c.args.destination = kept.counts.sources_are c.args.destination inside' in
          let none : sources_left v.moves (state_in v) c.args.destination ≡ 0 = none_left v.moves (state_in v) c.args.destination allowed.1 in
          let same : w.index.result.now ≡ slice_index c.self.inside.sources_left.items c.args.destination = w.index.ensures ∙ get_or_default c.self.inside.sources_left.items c.args.destination w.index.result.now 0 (rw kept.counts.sources_all inside') in
          let more = w.if-index-gt0.true in
          omega arith
    ]))

pub invariant_of-self : goal.invariant_of-self
invariant_of-self c =
    let v : SchedulerView = record { workers = c.self.inside.workers; moves = c.self.inside.moves; flags = c.self.inside.drained.items; progress = c.self.inside.progress.items } in
    let kept : IsKept v c.self.inside.readers_left.items c.self.inside.sources_left.items c.self.inside.unsettled = c.self.invariant in
    let own : slice_index_or v.progress c.args.destination Unclaimed ≡ Filling c.args.worker = rw (← c.self.view_is) at (c.is_at.ensures.0 c.if-not-is_at.false) in
    let inside : c.args.destination < length v.progress = begun_inside v.progress c.args.destination (Filling c.args.worker) own (λ e. cc) in
    let inside' : c.args.destination < region_count v.moves = rw (← kept.progress_all) inside in
    let is : slice_index c.self.inside.sources_left.items c.args.destination ≡ sources_left v.moves (state_in v) c.args.destination = kept.counts.sources_are c.args.destination inside' in
    let same : c.index.result.now ≡ slice_index c.self.inside.sources_left.items c.args.destination = c.index.ensures ∙ get_or_default c.self.inside.sources_left.items c.args.destination c.index.result.now 0 (rw kept.counts.sources_all inside') in
    let none : sources_left v.moves (state_in v) c.args.destination ≡ 0 = let z = c.if-index-gt0.false in omega arith in
    (completes v c.self.inside.readers_left.items c.self.inside.sources_left.items c.self.inside.unsettled c.args.worker c.args.destination kept own none).kept

pub returns : goal.returns
returns c =
    let v : SchedulerView = record { workers = c.self.inside.workers; moves = c.self.inside.moves; flags = c.self.inside.drained.items; progress = c.self.inside.progress.items } in
    let kept : IsKept v c.self.inside.readers_left.items c.self.inside.sources_left.items c.self.inside.unsettled = c.self.invariant in
    let own : slice_index_or v.progress c.args.destination Unclaimed ≡ Filling c.args.worker = rw (← c.self.view_is) at (c.is_at.ensures.0 c.if-not-is_at.false) in
    let inside : c.args.destination < length v.progress = begun_inside v.progress c.args.destination (Filling c.args.worker) own (λ e. cc) in
    let inside' : c.args.destination < region_count v.moves = rw (← kept.progress_all) inside in
    let is : slice_index c.self.inside.sources_left.items c.args.destination ≡ sources_left v.moves (state_in v) c.args.destination = kept.counts.sources_are c.args.destination inside' in
    let same : c.index.result.now ≡ slice_index c.self.inside.sources_left.items c.args.destination = c.index.ensures ∙ get_or_default c.self.inside.sources_left.items c.args.destination c.index.result.now 0 (rw kept.counts.sources_all inside') in
    let none : sources_left v.moves (state_in v) c.args.destination ≡ 0 = let z = c.if-index-gt0.false in omega arith in
    rw (← c.self.view_is) (completes v c.self.inside.readers_left.items c.self.inside.sources_left.items c.self.inside.unsettled c.args.worker c.args.destination kept own none).steps
