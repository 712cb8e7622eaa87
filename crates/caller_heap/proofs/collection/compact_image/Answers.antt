use Rattle.std.proofs.Common.{◌≡◌, ◌∙◌, ap, Err}
use Rattle.object_heap.specs.HeapImage.{HeapImage}
use Rattle.image_streams.specs.declared.fault.Fault.TheVariants.{Memory, Gate}
use Rattle.collector.specs.declared.outcome.Refusal.{Refusal}
use Rattle.collector.specs.declared.outcome.Refusal.TheVariants.{Kept, Lost}
use Rattle.collector.specs.Collections.{IfKept, IfLost, fault_of}
use Rattle.caller_heap.proofs.collection.compact_image.Goals as goal

-- a collection with a gate that refuses nothing fails for want of memory
cause : (refusal : Refusal) (image : HeapImage) → IfKept refusal (λ back fault. (back ≡ image) × (fault ≡ Memory))
    → IfLost refusal (λ fault. fault ≡ Gate) → (refusal ≡ Lost Gate → ⊥) → fault_of refusal ≡ Memory
cause (Kept back fault) image kept _ admits = kept.1
cause (Lost fault) image _ gate admits = absurd (admits (ap Lost gate))

pub returns-in-Err-clause-fault : goal.returns-in-Err-clause-fault
returns-in-Err-clause-fault c =
    let open_gate : c.in-Err.refusal ≡ Lost Gate → ⊥ = λ e. (c.in-Err.ensures.gate (ap Err e)).2.2 in
    c.fault.ensures ∙ cause c.in-Err.refusal c.args.image c.in-Err.ensures.kept c.in-Err.ensures.lost open_gate
