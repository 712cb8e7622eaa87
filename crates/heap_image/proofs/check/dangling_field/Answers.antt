use Rattle.std.proofs.Common.{◌≡◌, ◌≤◌, ℕ, Bool, false, not, sym, ◌∙◌, ap, arith, below_more}
use Rattle.object_heap.specs.HeapImage.{HeapImage, with_live, is_null_or_live, reference_at}
use Rattle.object_heap.specs.ObjectFaults.{is_dangling}
use Rattle.heap_image.proofs.Lemmas.Finds.{find_least_from_zero, find_none_in_range}
use Rattle.heap_image.proofs.check.dangling_field.Goals as goal

-- what the test of a field found
tested : (image : HeapImage) (a field word : ℕ) (good : Bool) → word ≡ reference_at image a field → good ≡ is_null_or_live image word → is_dangling image (a, field) ≡ not good
tested image a field word good is g = ap (λ w. not (is_null_or_live image w)) (sym is) ∙ ap not (sym g)

pub loop-field-preserved : goal.loop-field-preserved
loop-field-preserved c = λ live below marks.
    let image = with_live c.args.heap.now live in
    below_more (λ k. is_dangling image (c.args.a, k) ≡ false) c.loop-field.field (c.loop-field.invariant live below marks)
    (tested image c.args.a c.loop-field.field c.reference.result c.is_null_or_live.result c.reference.ensures (c.is_null_or_live.ensures live below marks) ∙ ap not c.if-not-is_null_or_live.false)

pub returns-then-not-is_null_or_live : goal.returns-then-not-is_null_or_live
returns-then-not-is_null_or_live c = λ live below marks.
    let image = with_live c.args.heap.now live in
    sym (find_least_from_zero (λ k. is_dangling image (c.args.a, k)) c.args.references c.loop-field.field c.loop-field-test.true (c.loop-field.invariant live below marks)
    (tested image c.args.a c.loop-field.field c.reference.result c.is_null_or_live.result c.reference.ensures (c.is_null_or_live.ensures live below marks) ∙ ap not c.if-not-is_null_or_live.true))

pub returns : goal.returns
returns c = λ live below marks.
    let image = with_live c.args.heap.now live in
    let past : c.args.references ≤ c.loop-field.field = c.loop-field-test.false in
    sym (find_none_in_range (λ k. is_dangling image (c.args.a, k)) 0 c.args.references (λ k l. c.loop-field.invariant live below marks k (omega arith)))
