use Rattle.std.proofs.Common.{subst}
use Rattle.std.proofs.lemmas.Option.{IfSome_then}
use Rattle.std.specs.Prelude.{IfSome}
use Rattle.image_streams.specs.Extents.{IsBodyOf}
use Rattle.image_streams.proofs.Lemmas.Extents.{joined}
use Rattle.image_streams.proofs.side_by_side.+body_in_row+fn-body_in_row-second.Goals as goal

pub returns : goal.returns
returns g t c =
    let known = g.S.Store.bytes c.args.store.now in
    let extent = c.args.extent in
    let low = c.split.result.0 in
    let high = c.split.result.1 in
    let first = c.in_ok-first.field-0 in
    let second = c.in_ok-second.field-0 in
    let a : IsBodyOf known low first = subst (λ r. IfSome r (IsBodyOf known low)) c.in_ok-first.was c.join-first.ensures.first in
    let b : IsBodyOf known high second = subst (λ r. IfSome r (IsBodyOf known high)) c.in_ok-second.was c.join-first.ensures.second in
    IfSome_then c.join_bodies.result c.join_bodies.ensures (λ whole e. joined known extent low high first second whole c.split.ensures a b e.regions e.tail)
