use Rattle.std.proofs.Common.{◌∙◌, ◌++◌, [], ◌∷◌, ap, length, map, subst, arith}
use Rattle.std.proofs.Math.ListN.{set}
use Rattle.std.proofs.lemmas.List.{length-map}
use Rattle.heap_marking.specs.Boxes.{HasMore}
use Rattle.heap_marking.proofs.Lemmas.Rows.{has_more}
use Rattle.heap_marking.proofs.marking.boxes.Boxes.send.Goals as goal

pub returns-clause-sent : goal.returns-clause-sent
returns-clause-sent c =
    let items = c.self.inside.boxes.items in
    let k = c.args.k in
    let w = c.args.reference in
    subst (λ boxes. HasMore k w boxes (map (λ v. v.items) (set items k c.push.new.self))) c.self.view_is
    (has_more (λ v. v.items) items k w c.push.new.self c.index_mut.result.now
    (omega (arith, c.requires, ap length c.self.view_is, length-map items (λ v. v.items)))
    (c.in_ok-push.ensures.items ∙ ap (λ v. v.items ++ w ∷ []) c.index_mut.ensures.value))
