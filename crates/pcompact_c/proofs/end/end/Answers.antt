use Rattle.std.proofs.Common.{◌∙◌, ap}
use Rattle.std.specs.Prelude.{Some, map, option_map}
use Rattle.object_heap.specs.HeapImage.{HeapImage}
use Rattle.heap_image.specs.ImageText.{with_tail}
use Rattle.collector.specs.Sessions.{image_of}
use Rattle.pcompact_c.specs.Handles.{share_in}
use Rattle.pcompact_c.proofs.Lemmas.Kept.{last_kept}
use Rattle.pcompact_c.proofs.Lemmas.Shares.{ends}
use Rattle.pcompact_c.proofs.end.end.Goals as goal

pub returns-clause-collected : goal.returns-clause-collected
returns-clause-collected c =
    let handles = c.are_all_of_one.new.handles in
    let made = c.in_ok-outcome.ensures.outcome in
    let last = ends share_in Some handles made.0 made.1 (c.in_ok-shares.ensures.shares ∙ ap (map Some) made.2) in
    let put = c.in_ok-put_back.ensures in (
      image_of made.1,
      last_kept (image_of made.1) c.args.handles.now handles c.are_all_of_one.ensures.parts (last.0, last.1, last.2, ap (option_map image_of) last.3),
      put.words ∙ ap (λ (image : HeapImage). image.words) made.3,
      put.list ∙ ap (λ (image : HeapImage). (with_tail image).live) made.3,
      made.4,
    )
