-- Shares of one session.
use Rattle.std.proofs.Common.{◌≡◌, ◌⊎◌, inl, List, [], ◌∷◌, ◌++◌, ◌∙◌, subst}
use Rattle.std.specs.Prelude.{All, Option, Some, None, IfSome}
use Rattle.std.proofs.lemmas.List.Elements.{All-pop}
use Rattle.object_heap.specs.HeapImage.{HeapImage}
use Rattle.image_streams.specs.declared.fault.Fault.TheVariants.{Memory, Workers}
use Rattle.collector.specs.Collections.{IfKept}
use Rattle.collector.specs.declared.outcome.Refusal.{Refusal}
use Rattle.collector.specs.declared.outcome.Refusal.TheVariants.{Kept, Lost}

-- what holds of each element holds of the front and of the last element
pub front_and_last : {X : Type 0} (P : X → Type 0) (all front : List X) (last : X) → all ≡ front ++ last ∷ [] → All P all → All P front × P last
front_and_last P all front last is each = All-pop P all front (Some last) is each

-- the image of a session that is given back
pub given_back : (back : Option HeapImage) (own image : HeapImage) → own ≡ image → IfSome back (λ given. given ≡ own) → IfSome back (λ given. given ≡ image)
given_back None own image is given = tt
given_back (Some it) own image is given = given ∙ is

-- a refusal keeps the image that came back
pub kept_image : (refusal : Refusal) (back : Option HeapImage) (image : HeapImage) → IfKept refusal (λ given fault. (fault ≡ Memory) × (back ≡ Some given)) → IfSome back (λ given. given ≡ image)
    → IfKept refusal (λ given fault. (given ≡ image) × ((fault ≡ Memory) ⊎ (fault ≡ Workers)))
kept_image (Kept given fault) back image kept is = (subst (λ b. IfSome b (λ g. g ≡ image)) kept.1 is, inl kept.0)
kept_image (Lost fault) back image kept is = tt
