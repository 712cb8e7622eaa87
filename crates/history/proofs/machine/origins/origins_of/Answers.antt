use Rattle.std.proofs.Common.{◌≡◌, ℕ, ◌+◌, List, ◌++◌, [], ◌∷◌, sym, subst, arith}
use Rattle.object_heap.specs.HeapImage.{HeapImage, is_live_word}
use Rattle.object_heap.specs.Bits.{IsFirstFrom, NoneFrom}
use Rattle.summary.specs.NewAddresses.{prefix_end}
use Rattle.history.proofs.Lemmas.Carrying.{IsListed, listed_first, listed_more, listed_all}
use Rattle.history.proofs.machine.origins.origins_of.Goals as goal

pub loop-q-init : goal.loop-q-init
loop-q-init c =
    subst (λ (n : ℕ). IsListed c.args.plan.now c.new-origins.result.items n) (sym c.prefix_end-from.ensures.value)
    (subst (λ (xs : List ℕ). IsListed c.args.plan.now xs (prefix_end c.args.plan.now)) (sym c.new-origins.ensures.items) (listed_first c.plan_laws.ensures c.args.plan.now c.prefix_end-from.ensures.valid))

pub overflow_add-from : goal.overflow_add-from
overflow_add-from c =
    let valid = c.prefix_end-from.ensures.valid in
    let first : IsFirstFrom (is_live_word c.args.plan.now) c.loop-q.from c.in-Some.q = (subst (λ (i : HeapImage). IsFirstFrom (is_live_word i) c.loop-q.from c.in-Some.q) c.requires c.in-Some.ensures) in
    let below = c.plan_laws.ensures.live_below c.args.plan.now valid.live_list c.in-Some.q first.passes in
    let few = valid.limits.few_words in
    omega arith

pub loop-q-smaller : goal.loop-q-smaller
loop-q-smaller c =
    let valid = c.prefix_end-from.ensures.valid in
    let first : IsFirstFrom (is_live_word c.args.plan.now) c.loop-q.from c.in-Some.q = (subst (λ (i : HeapImage). IsFirstFrom (is_live_word i) c.loop-q.from c.in-Some.q) c.requires c.in-Some.ensures) in
    let behind = first.behind in
    let below = c.plan_laws.ensures.live_below c.args.plan.now valid.live_list c.in-Some.q first.passes in
    omega arith

pub loop-q-preserved : goal.loop-q-preserved
loop-q-preserved c =
    let valid = c.prefix_end-from.ensures.valid in
    let first : IsFirstFrom (is_live_word c.args.plan.now) c.loop-q.from c.in-Some.q = (subst (λ (i : HeapImage). IsFirstFrom (is_live_word i) c.loop-q.from c.in-Some.q) c.requires c.in-Some.ensures) in
    let items : c.push.new.self.items ≡ c.loop-q.origins.items ++ c.in-Some.q ∷ [] = c.in_ok-push.ensures.items in
    subst (λ (xs : List ℕ). IsListed c.args.plan.now xs (c.in-Some.q + 1)) (sym items) (listed_more c.plan_laws.ensures c.args.plan.now valid c.loop-q.origins.items c.loop-q.from c.in-Some.q c.loop-q.invariant first)

pub returns : goal.returns
returns c =
    let valid = c.prefix_end-from.ensures.valid in
    let none : NoneFrom (is_live_word c.args.plan.now) c.loop-q.from = subst (λ (i : HeapImage). NoneFrom (is_live_word i) c.loop-q.from) c.requires c.in_default.ensures in
    listed_all c.plan_laws.ensures c.args.plan.now valid c.loop-q.origins.items c.loop-q.from c.loop-q.invariant none
