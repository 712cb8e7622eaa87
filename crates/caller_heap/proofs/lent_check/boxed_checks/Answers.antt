use Rattle.std.proofs.Common.{◌≡◌, All, Box, Global, subst}
use Rattle.std.proofs.lemmas.Result.{IfOk-weaker}
use Rattle.heap_image.specs.SharedCheck.{UncheckedHeap}
use Rattle.caller_heap.specs.LentChecks.{IsCheckPartOf}
use Rattle.caller_heap.specs.declared.part.Part.{Part}
use Rattle.caller_heap.proofs.lent_check.boxed_checks.Goals as goal

pub returns-in-Ok-clause-parts : goal.returns-in-Ok-clause-parts
returns-in-Ok-clause-parts c =
    let origin = c.args.origin in
    IfOk-weaker c.deal.result _ _
    (λ made parts. subst (λ (h : UncheckedHeap). All (λ (part : Box Part Global). IsCheckPartOf h origin part.value) made.items) c.in-Ok.ensures.share (parts origin c.in-Ok-Ok.ensures'.origin))
    c.deal.ensures.parts
