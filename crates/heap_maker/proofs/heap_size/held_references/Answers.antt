use Rattle.std.proofs.Common.{◌≡◌, ◌∙◌, ap, arith}
use Rattle.object_heap.specs.HeapImage.{HeapImage, reference_at}
use Rattle.heap_maker.proofs.Lemmas.Sizes.{held_none, held_one}
use Rattle.heap_maker.proofs.heap_size.held_references.Goals as goal
use Rattle.heap_maker.proofs.heap_size.held_references.Goals.{then-reference-ne0, else-reference-ne0}

pub loop-f-preserved : goal.loop-f-preserved
loop-f-preserved c =
    let image : HeapImage = c.args.image.now in
    let f = c.loop-f.f in
    let is : c.reference.result ≡ reference_at image c.args.a f =
    c.reference.ensures ∙ ap (λ (heap : HeapImage). reference_at heap c.args.a f) c.heap.ensures in
    elim c.if-reference-ne0.branch [
      | then-reference-ne0 w ↦ (
          let more = held_one (reference_at image c.args.a) f c.reference.result is (omega (arith, w.if-reference-ne0.true)) in
          record { count = omega (arith, more, w.held-is, c.loop-f.invariant.count); few = omega (arith, w.held-is, c.loop-f.invariant.few) })
      | else-reference-ne0 w ↦ (
          let none = held_none (reference_at image c.args.a) f c.reference.result is (omega (arith, w.if-reference-ne0.false)) in
          record { count = omega (arith, none, w.held-is, c.loop-f.invariant.count); few = omega (arith, w.held-is, c.loop-f.invariant.few) })
    ]
