use Rattle.std.proofs.Common.{◌≡◌, false, get_or, take, All, sym, ◌∙◌, ap, subst, arith}
use Rattle.std.proofs.lemmas.List.{take_all, take_more}
use Rattle.std.proofs.lemmas.List.Elements.{All-push}
use Rattle.heap_marking.specs.declared.marking.part.Part.{Part}
use Rattle.heap_marking.proofs.marking.rounds.has_failed.Goals as goal

pub loop-part-preserved : goal.loop-part-preserved
loop-part-preserved c =
    let parts = c.args.parts.now in
    let i = c.loop-part.part-index in
    let p : Part = c.part-item.result in
    record {
      fine = subst (All (λ p. p.failed ≡ false)) (sym (take_more parts i p c.loop-part-test.true))
          (All-push (λ p. p.failed ≡ false) (take i parts) (get_or parts i p) c.loop-part.invariant.fine (ap (λ x. x.failed) (sym c.part-item.is) ∙ c.if-part.false));
    }

pub returns : goal.returns
returns c = λ is.
    let parts = c.args.parts.now in
    subst (All (λ p. p.failed ≡ false)) (take_all c.loop-part.part-index parts (omega (arith, c.loop-part-test.false))) c.loop-part.invariant.fine
