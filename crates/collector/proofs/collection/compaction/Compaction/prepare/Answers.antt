use Rattle.std.proofs.Common.{◌≡◌, [], sym, subst, ap, ◌∙◌}
use Rattle.std.specs.Prelude.{All}
use Rattle.summary.specs.RegionData.{fill_count}
use Rattle.claim_board.specs.declared.pass.Pass.{Pass}
use Rattle.claim_board.specs.Boards.{board_of, held}
use Rattle.claim_board.specs.RegionBoards.{identity}
use Rattle.collector.specs.declared.workers.worker.Worker.{Worker}
use Rattle.collector.specs.Rest.{AreBare}
use Rattle.collector.proofs.Lemmas.Losses.{unmapped}
use Rattle.collector.proofs.Lemmas.Passes.{all_seated, each_bare, fresh}
use Rattle.collector.proofs.Lemmas.Stopping.{seated_fresh, fresh_rest, fresh_stopped}
use Rattle.collector.proofs.collection.compaction.Compaction.prepare.Goals as goal

pub returns-in-Ok-keep_regions-clause-seats : goal.returns-in-Ok-keep_regions-clause-seats
returns-in-Ok-keep_regions-clause-seats g c k d below =
    let made = c.in-Ok-keep_regions in
    let IsOfBoard : Pass → Type 0 = λ p. board_of p ≡ identity made.board in
    let all = unmapped (λ (w : Worker). w.seat.pass) IsOfBoard c.man-workers.result.0.items (subst (All IsOfBoard) (sym c.man-workers.ensures.passes) (all_seated (identity made.board) made.passes.items made.ensures.passes.1)) in
    all k d below ∙ ap identity (sym c.of.ensures)

pub returns-in-Ok-keep_regions-clause-fresh : goal.returns-in-Ok-keep_regions-clause-fresh
returns-in-Ok-keep_regions-clause-fresh g c =
    let made = c.in-Ok-keep_regions in
    seated_fresh c.man-workers.result.0.items made.passes.items c.man-workers.ensures.passes (fresh (identity made.board) made.passes.items made.ensures.passes.1)

pub returns-in-Ok-keep_regions-clause-rest : goal.returns-in-Ok-keep_regions-clause-rest
returns-in-Ok-keep_regions-clause-rest g c =
    let made = c.in-Ok-keep_regions in
    let IsBare : Pass → Type 0 = λ p. held p ≡ [] in
    let bare : AreBare c.man-workers.result.0.items = unmapped (λ (w : Worker). w.seat.pass) IsBare c.man-workers.result.0.items (subst (All IsBare) (sym c.man-workers.ensures.passes) (each_bare made.passes.items made.ensures.passes.2)) in
    fresh_rest c.man-workers.result.0.items (returns-in-Ok-keep_regions-clause-fresh g c) bare

pub returns-in-Ok-keep_regions-clause-stopped : goal.returns-in-Ok-keep_regions-clause-stopped
returns-in-Ok-keep_regions-clause-stopped g c =
    let made = c.in-Ok-keep_regions in
    let IsBare : Pass → Type 0 = λ p. held p ≡ [] in
    let bare : AreBare c.man-workers.result.0.items = unmapped (λ (w : Worker). w.seat.pass) IsBare c.man-workers.result.0.items (subst (All IsBare) (sym c.man-workers.ensures.passes) (each_bare made.passes.items made.ensures.passes.2)) in
    fresh_stopped (g.D.HasBoard.keeps c.of.result) (fill_count c.in-Ok.survey) c.man-workers.result.0.items (returns-in-Ok-keep_regions-clause-fresh g c) bare c.man-workers.ensures.idle
