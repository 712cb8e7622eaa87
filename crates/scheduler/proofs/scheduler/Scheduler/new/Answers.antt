use Rattle.std.proofs.Common.{◌≡◌, ℕ, List, length, replicate, false, ap, ◌∙◌}
use Rattle.scheduler.specs.MoveTable.{region_count}
use Rattle.scheduler.specs.Scheduler.{SchedulerView}
use Rattle.scheduler.specs.declared.scheduler.progress.Progress.TheVariants.{Unclaimed}
use Rattle.scheduler.proofs.Lemmas.Openings.{IsOpening, opening_kept}
use Rattle.scheduler.proofs.scheduler.Scheduler.new.Goals as goal

pub invariant_of-result : goal.invariant_of-result
invariant_of-result g c =
    let v : SchedulerView = record { workers = c.args.workers; moves = c.in_ok-given.given; flags = c.in_ok-drained.drained.items; progress = c.in_ok-progress.progress.items } in
    let flags : c.in_ok-drained.drained.items ≡ replicate (length v.moves.pairs) false = c.in_ok-drained.ensures.items_if_clones_equal (λ y h. h) ∙ ap (λ (ps : List (ℕ × ℕ)). replicate (length ps) false) c.pairs.ensures in
    let progress : c.in_ok-progress.progress.items ≡ replicate (region_count v.moves) Unclaimed = c.in_ok-progress.ensures.items_if_clones_equal (λ y h. h) ∙ ap (λ (n : ℕ). replicate n Unclaimed) c.regions-regions.ensures.number in
    let all : IsOpening v c.in_ok-readers_left.readers_left.items c.in_ok-sources_left.sources_left.items c.fill_count-unsettled.result = opening_kept v c.in_ok-readers_left.readers_left.items c.in_ok-sources_left.sources_left.items c.fill_count-unsettled.result c.regions-regions.ensures.lawful flags progress c.in_ok-readers_left.ensures c.in_ok-sources_left.ensures c.fill_count-unsettled.ensures.flags in
    rw c.in_ok-moves.ensures all.kept

pub returns-clause-opening : goal.returns-clause-opening
returns-clause-opening g c =
    let v : SchedulerView = record { workers = c.args.workers; moves = c.in_ok-given.given; flags = c.in_ok-drained.drained.items; progress = c.in_ok-progress.progress.items } in
    let flags : c.in_ok-drained.drained.items ≡ replicate (length v.moves.pairs) false = c.in_ok-drained.ensures.items_if_clones_equal (λ y h. h) ∙ ap (λ (ps : List (ℕ × ℕ)). replicate (length ps) false) c.pairs.ensures in
    let progress : c.in_ok-progress.progress.items ≡ replicate (region_count v.moves) Unclaimed = c.in_ok-progress.ensures.items_if_clones_equal (λ y h. h) ∙ ap (λ (n : ℕ). replicate n Unclaimed) c.regions-regions.ensures.number in
    let all : IsOpening v c.in_ok-readers_left.readers_left.items c.in_ok-sources_left.sources_left.items c.fill_count-unsettled.result = opening_kept v c.in_ok-readers_left.readers_left.items c.in_ok-sources_left.sources_left.items c.fill_count-unsettled.result c.regions-regions.ensures.lawful flags progress c.in_ok-readers_left.ensures c.in_ok-sources_left.ensures c.fill_count-unsettled.ensures.flags in
    rw c.in_ok-moves.ensures all.state
