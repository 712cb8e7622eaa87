use Rattle.std.proofs.Common.{◌≡◌, subst}
use Rattle.std.specs.Prelude.{IfSome}
use Rattle.collector.specs.SessionIds.{SessionHeap}
use Rattle.collector.specs.Sessions.{heap_of}
use Rattle.collector.specs.Slides.{slid_regions}
use Rattle.collector.proofs.session.share.Share.end_slide.Goals as goal

pub returns-in-Some-finish_slide-clause-words : goal.returns-in-Some-finish_slide-clause-words
returns-in-Some-finish_slide-clause-words c =
    subst (λ (h : SessionHeap). IfSome h.held (λ blocks. c.in-Some-finish_slide.done.0.items ≡ slid_regions h.image blocks)) c.fill_rest.ensures
    (c.in-Some-finish_slide.ensures.words (heap_of c.fill_rest.new.self) c.in-Some.ensures.heap)
