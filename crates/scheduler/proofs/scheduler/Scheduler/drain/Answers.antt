use Rattle.std.proofs.Common.{◌≡◌, ◌-◌, ℕ, refl, ap, ◌∙◌, inl, inr, ◌⊎◌, ◌≢◌}
use Rattle.std.specs.Prelude.{slice_index, slice_index_or, ◌==◌, if◌then◌else◌}
use Rattle.std.proofs.lemmas.List.{get_or_default}
use Rattle.std.proofs.lemmas.Bool.{ne_eqb}
use Rattle.scheduler.specs.Progress.{claimant_of, is_filled}
use Rattle.scheduler.specs.Scheduler.{SchedulerView, IsKept, IsPendingAt}
use Rattle.scheduler.specs.declared.scheduler.progress.Progress.TheVariants.{Unclaimed, Filling}
use Rattle.scheduler.specs.declared.reply.Reply.{Reply}
use Rattle.scheduler.specs.declared.reply.Reply.TheVariants.{Last, NotLast}
use Rattle.scheduler.proofs.Lemmas.Stepping.{IsOpen, open_of, Drains, drains}
use Rattle.scheduler.proofs.scheduler.Scheduler.drain.Goals as goal
use Rattle.scheduler.proofs.scheduler.Scheduler.drain.Goals.{then-left-eq0, else-left-eq0}

pub overflow_sub-index_mut : goal.overflow_sub-index_mut
overflow_sub-index_mut c =
    let v : SchedulerView = record { workers = c.self.inside.workers; moves = c.self.inside.moves; flags = c.self.inside.drained.items; progress = c.self.inside.progress.items } in
    let kept : IsKept v c.self.inside.readers_left.items c.self.inside.sources_left.items c.self.inside.unsettled = c.self.invariant in
    let found : IsPendingAt v c.args.destination c.args.source c.in-Some.at = rw (← c.self.view_is) at c.in-Some.ensures.found in
    let open' : IsOpen v c.args.destination c.args.source c.in-Some.at = open_of v c.self.inside.readers_left.items c.self.inside.sources_left.items c.self.inside.unsettled c.args.destination c.args.source c.in-Some.at kept found in
    let all : Drains v c.self.inside.readers_left.items c.self.inside.sources_left.items c.self.inside.unsettled c.args.destination c.args.source c.in-Some.at = drains v c.self.inside.readers_left.items c.self.inside.sources_left.items c.self.inside.unsettled c.args.destination c.args.source c.in-Some.at kept open' in
    let same = c.index_mut-2.ensures.value ∙ get_or_default c.self.inside.sources_left.items c.args.destination c.index_mut-2.result.now 0 (rw kept.counts.sources_all open'.slide.to_inside) in
    rw same all.some_sources

pub overflow_sub-left : goal.overflow_sub-left
overflow_sub-left c =
    let v : SchedulerView = record { workers = c.self.inside.workers; moves = c.self.inside.moves; flags = c.self.inside.drained.items; progress = c.self.inside.progress.items } in
    let kept : IsKept v c.self.inside.readers_left.items c.self.inside.sources_left.items c.self.inside.unsettled = c.self.invariant in
    let found : IsPendingAt v c.args.destination c.args.source c.in-Some.at = rw (← c.self.view_is) at c.in-Some.ensures.found in
    let open' : IsOpen v c.args.destination c.args.source c.in-Some.at = open_of v c.self.inside.readers_left.items c.self.inside.sources_left.items c.self.inside.unsettled c.args.destination c.args.source c.in-Some.at kept found in
    let all : Drains v c.self.inside.readers_left.items c.self.inside.sources_left.items c.self.inside.unsettled c.args.destination c.args.source c.in-Some.at = drains v c.self.inside.readers_left.items c.self.inside.sources_left.items c.self.inside.unsettled c.args.destination c.args.source c.in-Some.at kept open' in
    let same = c.index.ensures ∙ get_or_default c.self.inside.readers_left.items c.args.source c.index.result.now 0 (rw kept.counts.readers_all open'.slide.from_inside) in
    rw same all.some_readers

pub invariant_of-self : goal.invariant_of-self
invariant_of-self c =
    let v : SchedulerView = record { workers = c.self.inside.workers; moves = c.self.inside.moves; flags = c.self.inside.drained.items; progress = c.self.inside.progress.items } in
    let kept : IsKept v c.self.inside.readers_left.items c.self.inside.sources_left.items c.self.inside.unsettled = c.self.invariant in
    let found : IsPendingAt v c.args.destination c.args.source c.in-Some.at = rw (← c.self.view_is) at c.in-Some.ensures.found in
    let open' : IsOpen v c.args.destination c.args.source c.in-Some.at = open_of v c.self.inside.readers_left.items c.self.inside.sources_left.items c.self.inside.unsettled c.args.destination c.args.source c.in-Some.at kept found in
    let all : Drains v c.self.inside.readers_left.items c.self.inside.sources_left.items c.self.inside.unsettled c.args.destination c.args.source c.in-Some.at = drains v c.self.inside.readers_left.items c.self.inside.sources_left.items c.self.inside.unsettled c.args.destination c.args.source c.in-Some.at kept open' in
    let readers = c.index.ensures ∙ get_or_default c.self.inside.readers_left.items c.args.source c.index.result.now 0 (rw kept.counts.readers_all open'.slide.from_inside) in
    let sources = c.index_mut-2.ensures.value ∙ get_or_default c.self.inside.sources_left.items c.args.destination c.index_mut-2.result.now 0 (rw kept.counts.sources_all open'.slide.to_inside) in
    rw (readers, sources) all.kept

-- the reply, where the branch is known
reply_is : (n m : ℕ) (reply : Reply) → n ≡ m → ((n ≡ 0) × (reply ≡ Last)) ⊎ ((n ≢ 0) × (reply ≡ NotLast)) → reply ≡ (if m == 0 then Last else NotLast)
reply_is n m reply same (inl h) = h.1 ∙ (rw (← same, h.0) refl)
reply_is n m reply same (inr h) = h.1 ∙ (rw (← same, ne_eqb n 0 h.0) refl)

pub returns : goal.returns
returns c =
    let v : SchedulerView = record { workers = c.self.inside.workers; moves = c.self.inside.moves; flags = c.self.inside.drained.items; progress = c.self.inside.progress.items } in
    let kept : IsKept v c.self.inside.readers_left.items c.self.inside.sources_left.items c.self.inside.unsettled = c.self.invariant in
    let found : IsPendingAt v c.args.destination c.args.source c.in-Some.at = rw (← c.self.view_is) at c.in-Some.ensures.found in
    let open' : IsOpen v c.args.destination c.args.source c.in-Some.at = open_of v c.self.inside.readers_left.items c.self.inside.sources_left.items c.self.inside.unsettled c.args.destination c.args.source c.in-Some.at kept found in
    let all : Drains v c.self.inside.readers_left.items c.self.inside.sources_left.items c.self.inside.unsettled c.args.destination c.args.source c.in-Some.at = drains v c.self.inside.readers_left.items c.self.inside.sources_left.items c.self.inside.unsettled c.args.destination c.args.source c.in-Some.at kept open' in
    let readers : c.index.result.now ≡ slice_index c.self.inside.readers_left.items c.args.source = c.index.ensures ∙ get_or_default c.self.inside.readers_left.items c.args.source c.index.result.now 0 (rw kept.counts.readers_all open'.slide.from_inside) in
    let own : slice_index_or v.progress c.args.destination Unclaimed ≡ Filling c.args.worker = rw (← c.self.view_is) at (c.is_at.ensures.0 c.if-not-is_at.false) in
    rw (← c.self.view_is)
    (all.steps c.args.worker c.if-left-eq0.result (ap claimant_of own, ap is_filled own)
    (reply_is (c.index.result.now - 1) (slice_index c.self.inside.readers_left.items c.args.source - 1) c.if-left-eq0.result (ap (λ (n : ℕ). n - 1) readers)
    (elim c.if-left-eq0.branch [ then-left-eq0 w ↦ inl (w.if-left-eq0.true, w.result-is) | else-left-eq0 w ↦ inr (w.if-left-eq0.false, w.result-is) ])))
