use Rattle.std.proofs.Common.{◌∙◌, ap, sym, subst}
use Rattle.std.proofs.lemmas.Result.{IfOk-weaker}
use Rattle.std.specs.Prelude.{Some, map, option_map}
use Rattle.collector.specs.Collections.{figures_of}
use Rattle.collector.specs.Sessions.{held_of}
use Rattle.caller_heap.specs.Slides.{HoldSlid}
use Rattle.pcompact_c.specs.Handles.{share_in}
use Rattle.pcompact_c.proofs.Lemmas.Kept.{last_share, image_in_share, same_some}
use Rattle.pcompact_c.proofs.Lemmas.Shares.{ends}
use Rattle.pcompact_c.proofs.slide.end_slid.Goals as goal

pub returns-in-Ok-clause-slid : goal.returns-in-Ok-clause-slid
returns-in-Ok-clause-slid c =
    let handles = c.have_regions.new.handles in
    let same = c.have_regions.ensures ∙ c.are_all_of_one.ensures.parts in
    IfOk-weaker c.end_shares.result _ _
    (λ figures made last is image blocks slid.
    let found = ends share_in Some handles made.0 made.1 (c.in-Ok.ensures.shares ∙ ap (map Some) made.2) in
    let shared = last_share c.args.handles.now handles same is.0 found.0 last found.1 made.1 is.1 found.2 found.3 in
    let its_image = image_in_share last made.1 image shared slid.0.0 in
    let its_words = same_some (held_of made.1) (Some blocks) (sym (ap (option_map held_of) shared) ∙ slid.1) in
    (subst (λ i. HoldSlid i blocks c.end_shares.new.words) its_image (made.3 blocks its_words), made.4 ∙ ap figures_of its_image))
    c.end_shares.ensures.slid
