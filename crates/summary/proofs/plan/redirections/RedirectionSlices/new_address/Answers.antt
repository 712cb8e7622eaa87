use Rattle.std.proofs.Common.{◌≡◌, ◌+◌, ◌-◌, ◌∙◌, ap, subst, arith}
use Rattle.object_heap.specs.HeapImage.{IsValid, is_live_word}
use Rattle.summary.proofs.Lemmas.Ranks.{listed-live, live_in_heap, object-counted}
use Rattle.summary.proofs.plan.redirections.RedirectionSlices.new_address.Goals as goal

pub overflow_add-a : goal.overflow_add-a
overflow_add-a c =
    let valid : IsValid c.args.self.now = subst IsValid c.self.view_is c.self.invariant.valid in
    let inside = live_in_heap c.args.self.now valid.live_list c.args.a c.requires in
    let few = valid.limits.few_words in
    omega arith

pub rank-requires-clause-inside : goal.rank-requires-clause-inside
rank-requires-clause-inside c =
    let valid : IsValid c.args.self.now = subst IsValid c.self.view_is c.self.invariant.valid in
    let inside = live_in_heap c.args.self.now valid.live_list c.args.a c.requires in
    omega arith

pub overflow_sub-result : goal.overflow_sub-result
overflow_sub-result c =
    let valid : IsValid c.args.self.now = subst IsValid c.self.view_is c.self.invariant.valid in
    let count = c.rank.ensures ∙ object-counted c.args.self.now valid.live_list c.args.a c.requires in
    omega arith

pub returns : goal.returns
returns c =
    let valid : IsValid c.args.self.now = subst IsValid c.self.view_is c.self.invariant.valid in
    let count = c.rank.ensures ∙ object-counted c.args.self.now valid.live_list c.args.a c.requires in
    omega arith

pub rank-requires-clause-live : goal.rank-requires-clause-live
rank-requires-clause-live c = λ some.
    let valid : IsValid c.args.self.now = subst IsValid c.self.view_is c.self.invariant.valid in
    let at : c.args.a + 1 - 1 ≡ c.args.a = omega arith in
    ap (is_live_word c.args.self.now) at ∙ listed-live c.args.self.now valid.live_list c.args.a c.requires
