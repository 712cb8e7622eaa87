-- Faults of a recorded collection.
use Rattle.std.proofs.Common.{◌≡◌, ◌⊎◌, List, [], ◌∷◌, map, sym, ◌∙◌, inl, inr}
use Rattle.std.specs.Prelude.{All}
use Rattle.std.proofs.lemmas.List.Elements.{All-nil, All-cons, All-head, All-tail}
use Rattle.image_streams.specs.declared.fault.Fault.{Fault}
use Rattle.image_streams.specs.declared.fault.Fault.TheVariants.{Memory, Schedule, Gate}
use Rattle.collector.specs.Records.{IsOfSchedule}

-- if P holds of all elements under the map f, it holds of f of each element
pub unmapped : {X Y : Type 0} (f : X → Y) (P : Y → Type 0) (xs : List X) → All P (map f xs) → All (λ x. P (f x)) xs
unmapped f P [] all = All-nil (λ x. P (f x))
unmapped f P (x ∷ xs) all = All-cons (λ y. P (f y)) x xs (All-head P (f x) (map f xs) all) (unmapped f P xs (All-tail P (f x) (map f xs) all))

-- the gate's fault is none of the schedule
pub not_of_schedule : (fault : Fault) → fault ≡ Gate → (fault ≡ Memory) ⊎ IsOfSchedule fault → ⊥
not_of_schedule fault gate (inl memory) = let f : Gate ≡ Memory = sym gate ∙ memory in cc
not_of_schedule fault gate (inr line) = let f : Gate ≡ Schedule line.0 = sym gate ∙ line.1 in cc
