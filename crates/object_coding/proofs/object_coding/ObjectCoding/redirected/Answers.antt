use Rattle.std.proofs.Common.{◌<◌, ◌≤◌, sym, ◌∙◌, ap, subst, arith}
use Rattle.object_heap.specs.Layout.{Coding, coded_reference, coded_redirected}
use Rattle.object_coding.specs.ObjectLayout.{coding_of}
use Rattle.object_coding.proofs.Lemmas.References.{redirected_fits, redirected_is}
use Rattle.object_coding.proofs.object_coding.ObjectCoding.redirected.Goals as goal

pub overflow_add-result : goal.overflow_add-result
overflow_add-result c =
    let w = c.args.word in
    let back = sym c.self.view_is in
    let some : 0 < coded_reference c.args.self.now w = (let is = c.reference.ensures in let test = c.if-reference-eq0.false in omega arith) in
    let fits = redirected_fits (coding_of c.self.inside.layout c.self.inside.words) w c.args.reference c.self.invariant.lawful.room (subst (λ (k : Coding). 0 < coded_reference k w) back some) (subst (λ (k : Coding). c.args.reference ≤ k.count) back c.requires) c.saturating_sub.result c.saturating_sub.ensures in
    omega arith

pub returns-else-reference-eq0 : goal.returns-else-reference-eq0
returns-else-reference-eq0 c =
    let w = c.args.word in
    let back = sym c.self.view_is in
    let some : 0 < coded_reference c.args.self.now w = (let is = c.reference.ensures in let test = c.if-reference-eq0.false in omega arith) in
    redirected_is (coding_of c.self.inside.layout c.self.inside.words) w c.args.reference c.self.invariant.lawful.room (subst (λ (k : Coding). 0 < coded_reference k w) back some) (subst (λ (k : Coding). c.args.reference ≤ k.count) back c.requires) c.saturating_sub.result c.saturating_sub.ensures
    ∙ ap (λ (k : Coding). coded_redirected k w c.args.reference) c.self.view_is
