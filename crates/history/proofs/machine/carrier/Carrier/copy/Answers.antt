use Rattle.std.proofs.Common.{ℕ, ◌+◌, ◌<◌, ◌≤◌, length, inl, inr, sym, ap, ◌∙◌, arith}
use Rattle.std.proofs.lemmas.Bool.{cases_eq}
use Rattle.std.proofs.lemmas.List.{get_or-set_other}
use Rattle.std.proofs.lemmas.Grind.{get_or-set_at}
use Rattle.object_heap.specs.HeapImage.{word_at}
use Rattle.history.specs.Slide.{word_for}
use Rattle.history.specs.WordMachine.{image_slide}
use Rattle.history.proofs.machine.carrier.Carrier.copy.Goals as goal

pub overflow_add-place-end : goal.overflow_add-place-end
overflow_add-place-end c =
    let top = c.plan_laws.ensures.top-le c.args.self.now.plan.now c.requires.kept.valid.live_list in
    let few = c.requires.kept.valid.limits.few_words in
    omega arith

pub word-requires-clause-stands : goal.word-requires-clause-stands
word-requires-clause-stands c x from =
    let up = c.plan_laws.ensures.origin-up c.args.self.now.plan.now c.requires.kept.valid.live_list c.loop-place.place x from in
    let low : c.args.first ≤ c.loop-place.place = omega arith in
    let high : c.loop-place.place < c.args.first + c.args.number = let t = c.loop-place-test.true in let e = c.from.ensures in omega arith in
    c.loop-place.invariant.others x (inr up) ∙ c.requires.stands c.loop-place.place x low high from

pub bounds-heap-place : goal.bounds-heap-place
bounds-heap-place c =
    let top = c.plan_laws.ensures.top-le c.args.self.now.plan.now c.requires.kept.valid.live_list in
    let long = c.loop-place.auto.heap in
    let long' = c.requires.long in
    let t = c.loop-place-test.true in
    let e = c.from.ensures in
    let low = c.requires.below in
    omega arith

pub offset_bounds-heap-place : goal.offset_bounds-heap-place
offset_bounds-heap-place c =
    let top = c.plan_laws.ensures.top-le c.args.self.now.plan.now c.requires.kept.valid.live_list in
    let few = c.requires.kept.valid.limits.few_words in
    let t = c.loop-place-test.true in
    let e = c.from.ensures in
    let low = c.requires.below in
    omega arith

pub loop-place-preserved : goal.loop-place-preserved
loop-place-preserved c =
    let inside : c.loop-place.place < length c.loop-place.heap = bounds-heap-place c in
    let low : c.args.first ≤ c.loop-place.place = omega arith in
    record {
      written = λ a l m. elim (cases_eq a c.loop-place.place) [
        | inl here ↦ get_or-set_at c.loop-place.heap c.loop-place.place a c.word.result 0 here inside ∙ (c.word.ensures ∙ ap (λ (p : ℕ). word_for (image_slide c.args.self.now.plan.now) (word_at c.args.self.now.plan.now) p) (sym here))
        | inr other ↦ get_or-set_other c.loop-place.heap c.loop-place.place a c.word.result 0 other ∙ c.loop-place.invariant.written a l (omega arith)
      ];
      others = λ a out. get_or-set_other c.loop-place.heap c.loop-place.place a c.word.result 0 (λ e. elim out [ inl l ↦ (let no : ⊥ = omega arith in no) | inr m ↦ (let no : ⊥ = omega arith in no) ])
          ∙ c.loop-place.invariant.others a (elim out [ inl l ↦ inl l | inr m ↦ inr (omega arith) ]);
    }
