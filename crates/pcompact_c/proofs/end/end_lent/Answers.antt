use Rattle.std.proofs.Common.{◌∙◌, ap}
use Rattle.std.proofs.lemmas.Result.{IfOk-weaker}
use Rattle.std.specs.Prelude.{Some, map, option_map}
use Rattle.collector.specs.Sessions.{image_of}
use Rattle.pcompact_c.specs.Handles.{share_in}
use Rattle.pcompact_c.proofs.Lemmas.Kept.{last_kept}
use Rattle.pcompact_c.proofs.Lemmas.Shares.{ends}
use Rattle.pcompact_c.proofs.end.end_lent.Goals as goal

pub returns-in-Ok-clause-collected : goal.returns-in-Ok-clause-collected
returns-in-Ok-clause-collected c =
    let handles = c.suit.new.handles in
    let same = c.suit.ensures ∙ c.are_all_of_one.ensures.parts in
    IfOk-weaker c.end_shares.result _ _
    (λ figures made.
    let image = image_of made.1 in
    let last = ends share_in Some handles made.0 made.1 (c.in-Ok.ensures.shares ∙ ap (map Some) made.2) in
    (image, last_kept image c.args.handles.now handles same (last.0, last.1, last.2, ap (option_map image_of) last.3), made.3, made.4, made.5))
    c.end_shares.ensures.collected
