use Rattle.std.proofs.Common.{[], sym, ap, ◌∙◌}
use Rattle.std.specs.Prelude.{slice_index_or, unwrap_or}
use Rattle.collector.specs.SessionIds.{SessionHeap, SessionView}
use Rattle.collector.proofs.slide.Slide.begin.Goals as goal

pub deal-requires-clause-words : goal.deal-requires-clause-words
deal-requires-clause-words c blocks e r inside =
    let held = ap (λ (v : SessionView). v.heap.held) (c.in-Ok.ensures ∙ c.of_slide-id.ensures) in
    c.in-Ok-board.ensures.words r inside ∙ ap (λ o. slice_index_or (unwrap_or o []) r []) (sym held ∙ e)

pub returns-in-Ok-board-clause-image : goal.returns-in-Ok-board-clause-image
returns-in-Ok-board-clause-image c k d below = ap (λ (h : SessionHeap). h.image) (c.deal.ensures.heap k d below) ∙ ap (λ (v : SessionView). v.heap.image) (c.in-Ok.ensures ∙ c.of_slide-id.ensures)

pub returns-in-Ok-board-clause-words : goal.returns-in-Ok-board-clause-words
returns-in-Ok-board-clause-words c k d below = ap (λ (h : SessionHeap). h.held) (c.deal.ensures.heap k d below) ∙ ap (λ (v : SessionView). v.heap.held) (c.in-Ok.ensures ∙ c.of_slide-id.ensures)
