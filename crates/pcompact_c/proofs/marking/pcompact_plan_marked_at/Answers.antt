use Rattle.std.proofs.Common.{◌≡◌, ◌∙◌, ap, sym, subst, inr, length}
use Rattle.std.specs.Prelude.{Some, option_and_then}
use Rattle.object_heap.specs.HeapImage.{HeapImage}
use Rattle.object_heap.specs.Layout.{Coding}
use Rattle.coded_marking.specs.CodedHeap.{coded_image}
use Rattle.caller_heap.specs.declared.part.Part.{Part}
use Rattle.pcompact_c.specs.Markings.{heap_by, IsWhyMarkedNotPlanned}
use Rattle.pcompact_c.proofs.marking.pcompact_plan_marked_at.Goals as goal

pub returns-in-Err-plan_marked-clause-fault : goal.returns-in-Err-plan_marked-clause-fault
returns-in-Err-plan_marked-clause-fault c _ marks is =
    let heap : c.in-Some.heap ≡ heap_by c.args.layout.now c.args.words.now
    = c.in-Some.ensures.heap ∙ ap (λ (code : Coding). coded_image code c.args.words.now) c.in-Ok.ensures.value in
    let here : c.in-Some-leave.part.value.marking ≡ Some marks = sym (ap (option_and_then (λ (p : Part). p.marking)) c.in-Some-leave.ensures.part) ∙ is in
    let why = c.in-Err-plan_marked.ensures.fault marks here in
    inr (c.in-Err-plan_marked.fault, c.of-in-Err-plan_marked.ensures, subst (λ (i : HeapImage). IsWhyMarkedNotPlanned i marks.marked c.args.settings c.in-Err-plan_marked.fault) heap why)
