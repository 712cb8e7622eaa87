use Rattle.std.proofs.Common.{◌∙◌, All, refl, sym, subst, inl, inr}
use Rattle.object_heap.specs.declared.version.Version.TheVariants.{One}
use Rattle.heap_image.specs.SharedCheck.{UncheckedHeap}
use Rattle.caller_heap.specs.HeapWords.{heap_bytes}
use Rattle.caller_heap.specs.Lent.{heap_in}
use Rattle.caller_heap.specs.declared.part.Origin.TheVariants.{Checked}
use Rattle.pcompact_c.specs.Checks.{IsCheckHandleOf}
use Rattle.pcompact_c.proofs.Lemmas.Lent.{why_not_dealt}
use Rattle.pcompact_c.proofs.check.pcompact_begin_check_at.Goals as goal

pub returns-in-Ok-clause-begun : goal.returns-in-Ok-clause-begun
returns-in-Ok-clause-begun c none =
    subst (λ (h : UncheckedHeap). All (IsCheckHandleOf h (Checked c.args.settings.place)) c.deal_check.new.handles) c.in-Ok.ensures.check (c.deal_check.ensures.parts none)

pub returns-in-Ok-clause-back : goal.returns-in-Ok-clause-back
returns-in-Ok-clause-back c some =
    elim (c.deal_check.ensures.back some) [ inl held ↦ inl (held ∙ sym c.in-Ok.ensures.words) | inr lost ↦ inr (lost, c.if-not-are_ready.ensures.ready refl) ]

pub returns-in-Ok-clause-fault : goal.returns-in-Ok-clause-fault
returns-in-Ok-clause-fault c some =
    let why = c.deal_check.ensures.fault some in
    let bytes = heap_bytes One c.args.settings.heap (heap_in c.args.words.now) c.args.live.now in
    (why.0, why.1, why_not_dealt c.args.settings.heap.region_log c.args.words.now bytes why.0 why.2)

pub returns-in-Err-clause-fault : goal.returns-in-Err-clause-fault
returns-in-Err-clause-fault c some = (c.in-Err.fault, c.of-in-Err.ensures, inr c.in-Err.ensures.fault)
