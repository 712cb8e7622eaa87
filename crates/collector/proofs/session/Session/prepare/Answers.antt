use Rattle.std.proofs.Common.{ap, ◌∙◌}
use Rattle.collector.specs.SessionIds.{SessionHeap, SessionView}
use Rattle.collector.proofs.session.Session.prepare.Goals as goal

pub returns-clause-image : goal.returns-clause-image
returns-clause-image c k d below = ap (λ (h : SessionHeap). h.image) (c.deal.ensures.heap k d below) ∙ ap (λ (v : SessionView). v.heap.image) (c.in-Ok.ensures ∙ c.of_image-id.ensures)

pub returns-clause-objects : goal.returns-clause-objects
returns-clause-objects c k d below = ap (λ (h : SessionHeap). h.held) (c.deal.ensures.heap k d below) ∙ ap (λ (v : SessionView). v.heap.held) (c.in-Ok.ensures ∙ c.of_image-id.ensures)
