use Rattle.std.proofs.Common.{sym, ◌∙◌, subst}
use Rattle.object_heap.specs.HeapImage.{IsValid}
use Rattle.summary.proofs.Lemmas.Ranks.{reference-inside, reference-live, redirected-counted}
use Rattle.summary.proofs.plan.redirections.RedirectionSlices.redirected.Goals as goal

pub rank-requires-clause-inside : goal.rank-requires-clause-inside
rank-requires-clause-inside c =
    let valid : IsValid c.args.self.now = subst IsValid c.self.view_is c.self.invariant.valid in
    reference-inside c.args.self.now valid.live_list c.args.reference c.requires

pub returns : goal.returns
returns c =
    let valid : IsValid c.args.self.now = subst IsValid c.self.view_is c.self.invariant.valid in
    c.rank.ensures ∙ sym (redirected-counted c.args.self.now valid.live_list c.args.reference c.requires)

pub rank-requires-clause-live : goal.rank-requires-clause-live
rank-requires-clause-live c = λ some.
    let valid : IsValid c.args.self.now = subst IsValid c.self.view_is c.self.invariant.valid in
    reference-live c.args.self.now valid.live_list c.args.reference c.requires some
