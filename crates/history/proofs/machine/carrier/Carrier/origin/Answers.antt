use Rattle.std.proofs.Common.{◌≡◌, ◌<◌, sym, ap, ◌∙◌, arith}
use Rattle.object_heap.specs.HeapImage.{HeapImage, heap_words, is_live_word}
use Rattle.summary.specs.NewAddresses.{prefix_end}
use Rattle.history.proofs.machine.carrier.Carrier.origin.Goals as goal

pub is_live-requires : goal.is_live-requires
is_live-requires c =
    let top = c.plan_laws.ensures.top-le c.args.self.now.plan.now c.requires.kept.valid.live_list in
    let same : heap_words c.args.self.now.marks.now ≡ heap_words c.args.self.now.plan.now = ap (λ (i : HeapImage). heap_words i) c.requires.kept.marks in
    omega arith

pub returns-then-is_live : goal.returns-then-is_live
returns-then-is_live c =
    let low : c.args.place < prefix_end c.args.self.now.plan.now = omega arith in
    sym (c.plan_laws.ensures.origin-live c.args.self.now.plan.now c.requires.kept.valid.live_list c.args.place low
    (ap (λ (i : HeapImage). is_live_word i c.args.place) (sym c.requires.kept.marks) ∙ (sym c.is_live.ensures ∙ c.if-is_live.true)))

pub returns-else-is_live : goal.returns-else-is_live
returns-else-is_live c =
    let low : c.args.place < prefix_end c.args.self.now.plan.now = omega arith in
    sym (c.plan_laws.ensures.origin-dead c.args.self.now.plan.now c.requires.kept.valid.live_list c.args.place low
    (ap (λ (i : HeapImage). is_live_word i c.args.place) (sym c.requires.kept.marks) ∙ (sym c.is_live.ensures ∙ c.if-is_live.false)))
