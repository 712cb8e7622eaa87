use Rattle.std.proofs.Common.{◌≡◌, ◌<◌, ℕ, true, sym, ap, ◌∙◌, subst, arith}
use Rattle.std.proofs.lemmas.Bool.{ltb-true}
use Rattle.object_heap.specs.HeapImage.{HeapImage, IsValid}
use Rattle.summary.specs.RegionData.{fill_count}
use Rattle.scheduler.specs.ImageMoves.{image_table}
use Rattle.scheduler.specs.MoveTable.{to_fill}
use Rattle.claim_board.specs.Boards.{seen}
use Rattle.claim_board.specs.RegionBoards.{moves, worker_count}
use Rattle.collector.specs.Rest.{SettlesNext}
use Rattle.collector.proofs.Lemmas.Rest.{begins_self, begins_all, rest_self, rest_all}
use Rattle.std.specs.Option.{is_some}
use Rattle.collector.proofs.Lemmas.Kept.{moves_kept}
use Rattle.collector.proofs.workers.fill_task.FillTask.fill_rest.Goals as goal

pub loop-region-init : goal.loop-region-init
loop-region-init g c = record {
  board = c.requires.board;
  rest = rest_self c.args.seat.now.pass c.requires.rest;
  seen = begins_self (seen c.args.seat.now.pass);
  below = λ log legal b rest q under fills. absurd (omega (arith, under));
}

pub loop-region-preserved : goal.loop-region-preserved
loop-region-preserved g c =
    let i = c.loop-region.invariant in
    let e = c.in_ok-fill_if_unclaimed.ensures in
    let first = c.args.seat.now.pass in
    let last = c.loop-region.seat.pass in
    let new = c.fill_if_unclaimed.new.seat.pass in
    let board = g.D.HasBoard.keeps c.args.self.now.shared.now.desk in
    record {
      board = c.fill_if_unclaimed.ensures.board;
      rest = rest_all first last new i.rest e.rest;
      seen = begins_all (seen first) (seen last) (seen new) e.seen i.seen;
      below = subst (λ (v : ℕ). SettlesNext (moves board) (worker_count board) v (seen last) (seen new) c.loop-region.region) i.rest.0 e.next (seen first) i.seen i.below;
    }

pub returns-clause-settled : goal.returns-clause-settled
returns-clause-settled g c log legal longer rest r fills =
    let image : HeapImage = c.args.self.now.shared.now.survey in
    let plan : c.plan-plan.result.now ≡ image = c.plan-plan.ensures in
    let valid : IsValid image = subst IsValid plan c.planned_image_is_valid.ensures in
    let filled : to_fill (image_table image) r ≡ true = subst (λ m. to_fill m r ≡ true) (moves_kept (is_some c.args.self.now.shared.now.parts) image (g.D.HasBoard.keeps c.args.self.now.shared.now.desk) c.args.self.now.shared.now.keeps) fills in
    let below : r < fill_count image = ltb-true r (fill_count image) (sym (c.regions_to_fill.ensures.count image r) ∙ (sym (c.moves_of_images.ensures.to_fill image valid r) ∙ filled)) in
    let end : c.fill_regions-region-end.result ≡ fill_count image = c.fill_regions-region-end.ensures ∙ ap fill_count plan in
    c.loop-region.invariant.below log legal longer rest r (omega (arith, below, end, c.loop-region-test.false)) fills
