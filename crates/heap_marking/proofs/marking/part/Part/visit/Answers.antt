use Rattle.std.proofs.Common.{arith, ◌+◌, ◌-◌, ◌≡◌, ◌<◌, refl, subst, ℕ}
use Rattle.std.proofs.lemmas.Result.{on_ok_weaker}
use Rattle.object_heap.specs.HeapImage.{leads_to}
use Rattle.heap_marking.specs.Spread.{IsSpread}
use Rattle.heap_marking.specs.declared.marking.part.Part.{Part}
use Rattle.heap_marking.proofs.Lemmas.Spreads.{spread_send}
use Rattle.heap_marking.proofs.marking.part.Part.visit.Goals as goal

pub returns-then-a-self-2-clause-spread : goal.returns-then-a-self-2-clause-spread
returns-then-a-self-2-clause-spread c =
    let w : ℕ = c.args.reference in
    let a : ℕ = w - 1 in
    let same : a + 1 ≡ w = omega arith in
    let low : a < c.args.words = omega arith in
    on_ok_weaker c.mark.result (λ taken. subst (λ x. IsSpread c.args.log c.args.words (leads_to x) c.args.self.now c.mark.new.self) same (taken c.args.words low).spread) c.mark.ensures

pub returns-then-a-self-2-clause-well_formed : goal.returns-then-a-self-2-clause-well_formed
returns-then-a-self-2-clause-well_formed c =
    let low : c.args.reference - 1 < c.args.words = omega arith in
    on_ok_weaker c.mark.result (λ taken. (taken c.args.words low).well_formed) c.mark.ensures

pub returns-clause-spread : goal.returns-clause-spread
returns-clause-spread c =
    let w : ℕ = c.args.reference in
    let a : ℕ = w - 1 in
    let same : w ≡ a + 1 = omega arith in
    let low : a < c.args.words = omega arith in
    let p : Part = c.args.self.now in
    let p' : Part = record { first = p.first; bits = p.bits; stack = p.stack; out = c.send.new.self; well_formed = p.well_formed; work = p.work; failed = p.failed } in
    on_ok_weaker c.send.result (λ more. spread_send c.args.log c.args.words w a p p' same low refl refl refl c.send.ensures.count more) c.send.ensures.sent
