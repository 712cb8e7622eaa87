-- The faults of a collection from bytes to bytes.
use Rattle.std.proofs.Common.{◌≡◌, ◌⊎◌, ◌∙◌, sym, ap, inl, inr}
use Rattle.image_streams.specs.declared.fault.Fault.TheVariants.{Memory, Workers, Gate}
use Rattle.object_heap.specs.HeapImage.{HeapImage}
use Rattle.collector.specs.declared.outcome.Refusal.{Refusal}
use Rattle.collector.specs.declared.outcome.Refusal.TheVariants.{Kept, Lost}
use Rattle.collector.specs.Collections.{IfKept, fault_of}

-- if a collection ends with fault 16, some worker had begun
pub lost_by_gate : (r : Refusal) (image : HeapImage) → IfKept r (λ back fault. (back ≡ image) × ((fault ≡ Memory) ⊎ (fault ≡ Workers))) → fault_of r ≡ Gate → r ≡ Lost Gate
lost_by_gate (Kept back fault) image kept is = absurd (go kept.1)
  where
    go : (fault ≡ Memory) ⊎ (fault ≡ Workers) → ⊥
    go (inl memory) = let e : Gate ≡ Memory = sym is ∙ memory in cc
    go (inr workers) = let e : Gate ≡ Workers = sym is ∙ workers in cc
lost_by_gate (Lost fault) image kept is = ap Lost is
