-- A live list without a fault is that of a sound image.
use Rattle.std.proofs.Common.{◌≡◌, ℕ, zero, suc, ◌<◌, inl, inr, Bool, true, false, List, [], ◌∷◌, length, get_or, refl, sym, ◌∙◌, arith}
use Rattle.std.proofs.lemmas.Bool.{cases_Bool, cond-true, cond-false}
use Rattle.std.specs.Prelude.{find, Option, Some, None, option_map}
use Rattle.object_heap.specs.HeapImage.{HeapImage, HasLiveList}
use Rattle.heap_image.specs.ImageText.{first_some, fault_if, live_list_faults}
use Rattle.object_heap.specs.ObjectFaults.{unsound_header, overlapping, dangling}
use Rattle.image_streams.specs.declared.fault.Fault.{Fault}
use Rattle.image_streams.specs.declared.fault.Fault.TheVariants.{Header, Overlap, Reference}
use Rattle.heap_image.proofs.Lemmas.Faultless.{AllNone}

pub AllNone-from_first_some : {A : Type 0} (os : List (Option A)) → first_some os ≡ None → AllNone os
AllNone-from_first_some [] h = tt
AllNone-from_first_some (None ∷ others) h = (refl, AllNone-from_first_some others h)
AllNone-from_first_some (Some x ∷ others) h = cc

pub no_fault : (b : Bool) (f : Fault) → fault_if b f ≡ None → b ≡ false
no_fault true f h = cc
no_fault false f h = refl

pub map_None : {A B : Type 0} (f : A → B) (o : Option A) → option_map f o ≡ None → o ≡ None
map_None f None h = refl
map_None f (Some x) h = cc

some_none : {A : Type 0} {x : A} → Some x ≡ None → ⊥
some_none h = cc

pub find_None-at : {X : Type 0} (t : X → Bool) (xs : List X) (d : X) → find t xs ≡ None → (i : ℕ) → i < length xs → t (get_or xs i d) ≡ false
find_None-at t [] d h i l = let no : ⊥ = omega arith in absurd no
find_None-at t (x ∷ xs) d h zero l = elim (cases_Bool (t x)) [
  | inl passes ↦ absurd (some_none (sym (cond-true (t x) (Some x) (find t xs) passes) ∙ h))
  | inr fails ↦ fails
]
find_None-at t (x ∷ xs) d h (suc i) l = elim (cases_Bool (t x)) [
  | inl passes ↦ absurd (some_none (sym (cond-true (t x) (Some x) (find t xs) passes) ∙ h))
  | inr fails ↦ find_None-at t xs d (sym (cond-false (t x) (Some x) (find t xs) fails) ∙ h) i (omega arith)
]

-- a live list with which nothing is wrong is sound, as the law of objects without faults says
abbrev pub IsFaultlessList : Type 0
IsFaultlessList = (image : HeapImage) → unsound_header image ≡ None → overlapping image ≡ None → dangling image ≡ None → HasLiveList image

pub sound_live_list : IsFaultlessList → (image : HeapImage) → first_some (live_list_faults image) ≡ None → HasLiveList image
sound_live_list faultless image none =
    let all : AllNone (live_list_faults image) = AllNone-from_first_some (live_list_faults image) none in
    faultless image (map_None Header (unsound_header image) all.1.1.0) (map_None Overlap (overlapping image) all.1.1.1.0) (map_None (λ (p : ℕ × ℕ). Reference p.0 p.1) (dangling image) all.1.1.1.1.0)
