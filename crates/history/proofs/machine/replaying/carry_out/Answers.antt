use Rattle.std.proofs.Common.{◌≡◌, ℕ, ◌+◌, ◌<◌, ◌≤◌, ◌⊎◌, ◌∙◌, ◌∷◌, ◌++◌, [], add-one, refl, sym, ap, subst, inr, Some}
use Rattle.std.specs.Prelude.{slice_index}
use Rattle.object_heap.specs.HeapImage.{HeapImage, IsValid, word_at}
use Rattle.summary.specs.NewAddresses.{new_top}
use Rattle.summary.specs.WordMoves.{origin}
use Rattle.history.specs.Slide.{word_for}
use Rattle.history.specs.WordMachine.{image_slide}
use Rattle.history.specs.Ledger.{RefusesLine}
use Rattle.scheduler.specs.declared.schedule.line.Line.{Line}
use Rattle.history.proofs.Lemmas.Copies.{followed_of, first_way, line_copies, line_fits, way_on, worker_fits, carried_out}
use Rattle.history.proofs.Lemmas.Following.{item_is, refused_at}
use Rattle.history.proofs.machine.replaying.carry_out.Goals as goal

pub loop-i-init : goal.loop-i-init
loop-i-init c =
    first_way c.args.plan.now c.args.schedule.now c.in_ok-ledger.ledger c.new-lines.result.items c.args.heap.now (rw c.workers.ensures.value at c.in_ok-ledger.ensures.kept) c.in_ok-ledger.ensures.opening c.new-lines.ensures.items c.requires.heap

pub returns-in_default-clause-fault : goal.returns-in_default-clause-fault
returns-in_default-clause-fault c =
    let followed = followed_of c.args.plan.now c.args.schedule.now c.loop-i.i c.loop-i.ledger c.loop-i.lines.items c.loop-i.heap c.loop-i.invariant in
    inr (
      c.loop-i.i + 2,
      refl,
      refused_at c.args.plan.now c.args.schedule.now c.lines-line-items.result.now c.loop-i.i c.loop-i.ledger c.lines-line-items.ensures.lines followed c.loop-i-test.true
          (subst (RefusesLine c.args.plan.now c.loop-i.ledger.scheduler.workers c.loop-i.ledger) (c.line-line.ensures ∙ item_is c.lines-line-items.result.now c.loop-i.i c.line-item.result c.loop-i-test.true c.line-item.is) c.in_default.ensures.refused),
    )

pub copy-requires-clause-below : goal.copy-requires-clause-below
copy-requires-clause-below c =
    let copy = line_copies c.machine_laws.ensures c.args.plan.now (subst IsValid c.requires.plan c.requires.kept.valid) c.args.schedule.now c.lines-line-items.result.now c.loop-i.i c.loop-i.ledger c.follow.new.self c.loop-i.lines.items c.loop-i.heap c.line-line.result c.in-Ok.reply
    c.lines-line-items.ensures.lines c.loop-i.invariant c.loop-i-test.true (c.line-line.ensures ∙ item_is c.lines-line-items.result.now c.loop-i.i c.line-item.result c.loop-i-test.true c.line-item.is) c.in-Ok.ensures.call c.in-Ok.ensures.leads in
    subst (λ (i : HeapImage). c.places-first.result.0 + c.places-first.result.1 ≤ new_top i) (sym c.requires.plan)
    (subst (λ (q : ℕ × ℕ). q.0 + q.1 ≤ new_top c.args.plan.now) (sym c.places-first.ensures) copy.below)

pub copy-requires-clause-stands : goal.copy-requires-clause-stands
copy-requires-clause-stands c =
    let copy = line_copies c.machine_laws.ensures c.args.plan.now (subst IsValid c.requires.plan c.requires.kept.valid) c.args.schedule.now c.lines-line-items.result.now c.loop-i.i c.loop-i.ledger c.follow.new.self c.loop-i.lines.items c.loop-i.heap c.line-line.result c.in-Ok.reply
    c.lines-line-items.ensures.lines c.loop-i.invariant c.loop-i-test.true (c.line-line.ensures ∙ item_is c.lines-line-items.result.now c.loop-i.i c.line-item.result c.loop-i-test.true c.line-item.is) c.in-Ok.ensures.call c.in-Ok.ensures.leads in
    subst (λ (i : HeapImage). (a x : ℕ) → c.places-first.result.0 ≤ a → a < c.places-first.result.0 + c.places-first.result.1 → origin i a ≡ Some x → slice_index c.loop-i.heap x ≡ word_at i x) (sym c.requires.plan)
    (subst (λ (q : ℕ × ℕ). (a x : ℕ) → q.0 ≤ a → a < q.0 + q.1 → origin c.args.plan.now a ≡ Some x → slice_index c.loop-i.heap x ≡ word_at c.args.plan.now x) (sym c.places-first.ensures) copy.stands)

pub loop-i-preserved : goal.loop-i-preserved
loop-i-preserved c =
    rw add-one
    (way_on c.machine_laws.ensures c.args.plan.now (subst IsValid c.requires.plan c.requires.kept.valid) c.args.schedule.now c.lines-line-items.result.now c.loop-i.i c.loop-i.ledger c.follow.new.self c.loop-i.lines.items c.loop-i.heap c.line-line.result c.in-Ok.reply
    c.lines-line-items.ensures.lines c.loop-i.invariant c.loop-i-test.true (c.line-line.ensures ∙ item_is c.lines-line-items.result.now c.loop-i.i c.line-item.result c.loop-i-test.true c.line-item.is) c.in-Ok.ensures.call c.in-Ok.ensures.leads
    c.push.new.self.items c.copy.new.heap c.in-Ok.ensures.kept (c.in_ok-push.ensures.items ∙ ap (λ (l : Line). c.loop-i.lines.items ++ l ∷ []) c.of.ensures) c.copy.auto.heap
    (subst (λ (q : ℕ × ℕ). (a : ℕ) → q.0 ≤ a → a < q.0 + q.1 → slice_index c.copy.new.heap a ≡ word_for (image_slide c.args.plan.now) (word_at c.args.plan.now) a) c.places-first.ensures
    (subst (λ (i : HeapImage). (a : ℕ) → c.places-first.result.0 ≤ a → a < c.places-first.result.0 + c.places-first.result.1 → slice_index c.copy.new.heap a ≡ word_for (image_slide i) (word_at i) a) c.requires.plan c.copy.ensures.written))
    (subst (λ (q : ℕ × ℕ). (a : ℕ) → (a < q.0) ⊎ (q.0 + q.1 ≤ a) → slice_index c.copy.new.heap a ≡ slice_index c.loop-i.heap a) c.places-first.ensures c.copy.ensures.others))

pub returns-clause-ok : goal.returns-clause-ok
returns-clause-ok c =
    carried_out c.args.plan.now c.args.schedule.now c.lines-line-items.result.now c.loop-i.i c.loop-i.ledger c.loop-i.lines.items c.loop-i.heap c.is_done.result c.lines-line-items.ensures.lines c.loop-i.invariant c.loop-i-test.false c.is_done.ensures

pub of-requires : goal.of-requires
of-requires c =
    line_fits c.machine_laws.ensures c.args.plan.now (subst IsValid c.requires.plan c.requires.kept.valid) c.args.schedule.now c.lines-line-items.result.now c.loop-i.i c.loop-i.ledger c.follow.new.self c.loop-i.lines.items c.loop-i.heap c.line-line.result c.in-Ok.reply
    c.lines-line-items.ensures.lines c.loop-i.invariant c.loop-i-test.true (c.line-line.ensures ∙ item_is c.lines-line-items.result.now c.loop-i.i c.line-item.result c.loop-i-test.true c.line-item.is) c.in-Ok.ensures.call c.in-Ok.ensures.leads c.lines-line-items.ensures.formed.few

pub follow-requires-clause-worker : goal.follow-requires-clause-worker
follow-requires-clause-worker c =
    worker_fits c.args.schedule.now c.lines-line-items.result.now c.loop-i.i c.loop-i.ledger c.line-line.result c.lines-line-items.ensures.formed c.lines-line-items.ensures.lines c.loop-i.invariant.kept.workers c.loop-i-test.true
    (c.line-line.ensures ∙ item_is c.lines-line-items.result.now c.loop-i.i c.line-item.result c.loop-i-test.true c.line-item.is)
