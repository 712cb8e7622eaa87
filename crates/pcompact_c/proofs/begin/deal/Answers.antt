use Rattle.std.proofs.Common.{◌≡◌, ◌⊎◌, ◌∙◌, inl, inr, subst}
use Rattle.image_streams.specs.declared.fault.Fault.{Fault}
use Rattle.image_streams.specs.declared.fault.Fault.TheVariants.{Memory, Workers}
use Rattle.object_heap.specs.HeapImage.{HeapImage}
use Rattle.collector.specs.declared.outcome.Refusal.{Refusal}
use Rattle.collector.specs.declared.outcome.Refusal.TheVariants.{Kept, Lost}
use Rattle.collector.specs.Collections.{IfKept, IfLost, fault_of}
use Rattle.caller_heap.specs.declared.part.Origin.TheVariants.{Copied}
use Rattle.pcompact_c.specs.Faults.{IsOf}
use Rattle.pcompact_c.proofs.begin.deal.Goals as goal

pub returns-in-Ok-clause-parts : goal.returns-in-Ok-clause-parts
returns-in-Ok-clause-parts c _ = c.hand_out.ensures.parts c.args.image Copied c.in-Ok.ensures.parts

-- why a session isn't begun: its image is kept
cause : (refusal : Refusal) (image : HeapImage) → IfKept refusal (λ back fault. (back ≡ image) × ((fault ≡ Memory) ⊎ (fault ≡ Workers)))
    → IfLost refusal (λ fault. ⊥) → (fault_of refusal ≡ Memory) ⊎ (fault_of refusal ≡ Workers)
cause (Kept back fault) image kept _ = kept.1
cause (Lost fault) image _ lost = absurd lost

pub returns-in-Err-clause-fault : goal.returns-in-Err-clause-fault
returns-in-Err-clause-fault c _ =
    let is = c.of.ensures in
    elim (cause c.in-Err.refusal c.args.image c.in-Err.ensures.kept c.in-Err.ensures.lost) [
      | inl memory ↦ inr (subst (λ (fault : Fault). IsOf fault c.of.result) (c.fault.ensures ∙ memory) is)
      | inr workers ↦ inl (subst (λ (fault : Fault). IsOf fault c.of.result) (c.fault.ensures ∙ workers) is)
    ]
