use Rattle.std.proofs.Common.{◌≡◌, ℕ, ◌≤◌, List, take, ltb, subst, sym, ◌∙◌, ap, arith}
use Rattle.std.proofs.lemmas.List.{take_all}
use Rattle.std.specs.Prelude.{fold, filter}
use Rattle.object_heap.specs.HeapImage.{HeapImage, IsValid, heap_words}
use Rattle.summary.specs.NewAddresses.{next_after, prefix_end}
use Rattle.summary.specs.PlanLaws.{PlanLaws}
use Rattle.plain_compaction.proofs.Lemmas.Nexts.{next-inside}
use Rattle.plain_compaction.proofs.plainly.next_at.Goals as goal

-- the next free address lies in the heap
inside : PlanLaws → (image : HeapImage) (items : List ℕ) (limit n next : ℕ) → IsValid image → items ≡ image.live → next ≡ fold (next_after image) (prefix_end image) (filter (λ b. ltb b limit) (take n items)) → next ≤ heap_words image
inside law image items limit n next valid are is =
    subst (λ k. k ≤ heap_words image) (sym is) (subst (λ xs. fold (next_after image) (prefix_end image) (filter (λ b. ltb b limit) (take n xs)) ≤ heap_words image) (sym are) (next-inside image law valid.live_list (λ b. ltb b limit) n))

pub loop-a-init : goal.loop-a-init
loop-a-init c = c.requires.exact

pub next_after-next-requires-clause-next_fits : goal.next_after-next-requires-clause-next_fits
next_after-next-requires-clause-next_fits c =
    let few = c.live-a-items.ensures.valid.limits.few_words in
    let low = inside c.plan_laws.ensures c.args.image.now c.live-a-items.result.now c.args.limit c.loop-a.a-index c.loop-a.next c.live-a-items.ensures.valid c.live-a-items.ensures.value c.loop-a.invariant in
    omega arith

pub returns-clause-small : goal.returns-clause-small
returns-clause-small c =
    let few = c.live-a-items.ensures.valid.limits.few_words in
    let low = inside c.plan_laws.ensures c.args.image.now c.live-a-items.result.now c.args.limit c.loop-a.a-index c.loop-a.next c.live-a-items.ensures.valid c.live-a-items.ensures.value c.loop-a.invariant in
    omega arith

pub returns-clause-value : goal.returns-clause-value
returns-clause-value c =
    let image = c.args.image.now in
    let all = c.loop-a-test.false in
    c.loop-a.invariant
    ∙ ap (λ xs. fold (next_after image) (prefix_end image) (filter (λ b. ltb b c.args.limit) xs))
    (take_all c.loop-a.a-index c.live-a-items.result.now all ∙ c.live-a-items.ensures.value)
