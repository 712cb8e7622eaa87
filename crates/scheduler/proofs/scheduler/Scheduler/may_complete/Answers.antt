use Rattle.std.proofs.Common.{◌≡◌, ◌<◌, length, sym, ap, ◌∙◌}
use Rattle.std.specs.Prelude.{slice_index, slice_index_or, IsTrue, ◌==◌, ◌↔◌}
use Rattle.std.proofs.lemmas.List.{get_or_default}
use Rattle.std.proofs.lemmas.Bool.{eqb-true, eq-eqb}
use Rattle.scheduler.specs.MoveTable.{region_count}
use Rattle.scheduler.specs.State.{Allows}
use Rattle.scheduler.specs.Progress.{claimant_of, is_filled}
use Rattle.scheduler.specs.Scheduler.{SchedulerView, state_in, IsKept, sources_left}
use Rattle.scheduler.specs.declared.scheduler.progress.Progress.TheVariants.{Unclaimed, Filling}
use Rattle.scheduler.specs.declared.event.Event.TheVariants.{Complete}
use Rattle.scheduler.proofs.Lemmas.Stepping.{all_read, none_left, begun_inside}
use Rattle.scheduler.proofs.scheduler.Scheduler.may_complete.Goals as goal

pub returns-then-is_at : goal.returns-then-is_at
returns-then-is_at c =
    let v : SchedulerView = record { workers = c.self.inside.workers; moves = c.self.inside.moves; flags = c.self.inside.drained.items; progress = c.self.inside.progress.items } in
    let kept : IsKept v c.self.inside.readers_left.items c.self.inside.sources_left.items c.self.inside.unsettled = c.self.invariant in
    let own : slice_index_or v.progress c.args.destination Unclaimed ≡ Filling c.args.worker = rw (← c.self.view_is) at (c.is_at.ensures.0 c.if-is_at.true) in
    let inside : c.args.destination < length v.progress = begun_inside v.progress c.args.destination (Filling c.args.worker) own (λ e. cc) in
    let inside' : c.args.destination < region_count v.moves = rw (← kept.progress_all) inside in
    let is : slice_index c.self.inside.sources_left.items c.args.destination ≡ sources_left v.moves (state_in v) c.args.destination = kept.counts.sources_are c.args.destination inside' in
    let same : c.index.result.now ≡ slice_index c.self.inside.sources_left.items c.args.destination = c.index.ensures ∙ get_or_default c.self.inside.sources_left.items c.args.destination c.index.result.now 0 (rw kept.counts.sources_all inside') in
    let may : IsTrue (c.index.result.now == 0) ↔ Allows v.moves (state_in v) c.args.worker (Complete c.args.destination) = (
      λ none. ((ap claimant_of own, ap is_filled own), all_read v.moves (state_in v) c.args.destination (sym is ∙ (sym same ∙ eqb-true c.index.result.now 0 none))),
      λ allowed. eq-eqb c.index.result.now 0 (same ∙ (is ∙ none_left v.moves (state_in v) c.args.destination allowed.1)),
    ) in
    rw (← c.self.view_is) may
