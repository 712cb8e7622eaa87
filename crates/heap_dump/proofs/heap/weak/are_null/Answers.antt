use Rattle.std.proofs.Common.{◌<◌, ◌≡◌, ℕ, List, get_or, length, true, refl, subst}
use Rattle.std.specs.List.{concat}
use Rattle.object_heap.specs.HeapImage.{HeapImage}
use Rattle.dump_objects.specs.declared.heap.weak_reference.WeakReference.{WeakReference}
use Rattle.heap_dump.proofs.Lemmas.WeakWords.{null_all, null_more}
use Rattle.heap_dump.proofs.heap.weak.are_null.Goals as goal

pub loop-reference-preserved : goal.loop-reference-preserved
loop-reference-preserved c =
    let weak = c.args.weak.now in
    let words = concat c.args.regions.now in
    let none : WeakReference = record { holder = 0; slot = 0; referent = 0 } in
    let slot = (get_or weak c.loop-reference.reference-index none).slot in
    let null : slot < length words → get_or words slot 0 ≡ 0 =
    subst (λ (h : HeapImage). slot < length h.words → get_or h.words slot 0 ≡ 0) c.new-heap.ensures (c.is_null.ensures c.if-not-is_null.false) in
    null_more weak words c.loop-reference.reference-index none c.loop-reference-test.true c.loop-reference.invariant null

pub returns : goal.returns
returns c = λ all. null_all c.args.weak.now (concat c.args.regions.now) c.loop-reference.reference-index c.loop-reference-test.false c.loop-reference.invariant
