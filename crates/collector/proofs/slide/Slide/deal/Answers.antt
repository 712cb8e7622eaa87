use Rattle.std.proofs.Common.{◌≡◌, ◌<◌, not, [], sym, subst, ap, ◌∙◌}
use Rattle.std.specs.Prelude.{All}
use Rattle.object_heap.specs.HeapImage.{HeapImage, region_count}
use Rattle.claim_board.specs.declared.pass.Pass.{Pass}
use Rattle.claim_board.specs.Boards.{board_of, held}
use Rattle.claim_board.specs.RegionBoards.{identity}
use Rattle.collector.specs.declared.workers.worker.Worker.{Worker}
use Rattle.collector.specs.Rest.{AreBare}
use Rattle.collector.proofs.Lemmas.Losses.{unmapped}
use Rattle.collector.proofs.Lemmas.Passes.{all_seated, each_bare, fresh}
use Rattle.collector.proofs.Lemmas.Stopping.{seated_fresh, fresh_rest}
use Rattle.collector.proofs.slide.Slide.deal.Goals as goal

pub deal-requires-clause-heap : goal.deal-requires-clause-heap
deal-requires-clause-heap c = record {
  image = c.self.view_is ∙ sym c.requires.image;
  opaque = sym (ap not c.requires.held);
  words = λ blocks e r inside. c.requires.words blocks e r (subst (λ (i : HeapImage). r < region_count i) c.requires.image inside);
}

pub deal-requires-clause-seats : goal.deal-requires-clause-seats
deal-requires-clause-seats c =
    let IsOfBoard : Pass → Type 0 = λ p. board_of p ≡ identity c.args.board in
    unmapped (λ (w : Worker). w.seat.pass) IsOfBoard c.man-workers.result.0.items (subst (All IsOfBoard) (sym c.man-workers.ensures.passes) (all_seated (identity c.args.board) c.args.passes.items c.requires.passes.0))

pub deal-requires-clause-rest : goal.deal-requires-clause-rest
deal-requires-clause-rest c =
    let IsBare : Pass → Type 0 = λ p. held p ≡ [] in
    let bare : AreBare c.man-workers.result.0.items = unmapped (λ (w : Worker). w.seat.pass) IsBare c.man-workers.result.0.items (subst (All IsBare) (sym c.man-workers.ensures.passes) (each_bare c.args.passes.items c.requires.passes.1)) in
    fresh_rest c.man-workers.result.0.items (seated_fresh c.man-workers.result.0.items c.args.passes.items c.man-workers.ensures.passes (fresh (identity c.args.board) c.args.passes.items c.requires.passes.0)) bare
