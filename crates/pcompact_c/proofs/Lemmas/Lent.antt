-- Why a collection of lent words isn't begun.
use Rattle.std.proofs.Common.{◌≡◌, ◌⊎◌, inl, inr, ℕ, List}
use Rattle.image_streams.specs.declared.fault.Fault.{Fault}
use Rattle.image_streams.specs.declared.fault.Fault.TheVariants.{Memory, Workers}
use Rattle.caller_heap.specs.Lent.{Lent, IsNotLent, IsWhyLentKept}

pub why_not_dealt : (log : ℕ) (words : List Lent) (bytes : List ℕ) (fault : Fault) → (fault ≡ Memory) ⊎ IsNotLent fault
    → (fault ≡ Workers) ⊎ IsWhyLentKept log words bytes fault
why_not_dealt log words bytes fault (inl memory) = inr (inl (inl memory))
why_not_dealt log words bytes fault (inr other) = inr (inr (inr other))
