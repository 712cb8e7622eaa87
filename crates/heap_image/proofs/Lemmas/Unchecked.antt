-- Parts that are checked in memory: what the check finds is what is first wrong with their text.
use Rattle.std.proofs.Common.{◌≡◌, ℕ, ◌++◌, ◌⊎◌, inl, inr, List, [], length, refl, sym, ◌∙◌, ap, Some}
use Rattle.std.proofs.lemmas.List.{append-nil}
use Rattle.std.specs.List.{concat}
use Rattle.object_heap.specs.HeapImage.{HeapImage, image_of}
use Rattle.heap_image.specs.ImageText.{listed_text, front, front_faults, from_tail, first_some, first_fault, live_list_faults}
use Rattle.image_streams.specs.Numbers.{numbers}
use Rattle.heap_image.specs.Reading.{HasFittingNumbers}
use Rattle.image_streams.specs.declared.fault.Fault.{Fault}
use Rattle.image_streams.specs.declared.fault.Fault.TheVariants.{Memory}
use Rattle.object_heap.specs.declared.version.Version.{Version}
use Rattle.heap_image.proofs.Lemmas.Faultless.{first_some-append, first_fault-append}
use Rattle.heap_image.proofs.Lemmas.Refusing.{front_faults-append}

-- a fault of the front is the first one of the text
pub front_reason : (version : Version) (log allowance : ℕ) (blocks : List (List ℕ)) (tail : List ℕ) (fault : Fault)
    → (fault ≡ Memory) ⊎ (first_some (front_faults (front version log (length tail) (length (concat blocks)) allowance)) ≡ Some fault)
    → (fault ≡ Memory) ⊎ (first_fault (listed_text version (image_of log allowance blocks tail)) ≡ Some fault)
front_reason version log allowance blocks tail fault (inl memory) = inl memory
front_reason version log allowance blocks tail fault (inr first) =
    let bytes : List ℕ = front version log (length tail) (length (concat blocks)) allowance in
    let rest : List ℕ = numbers (concat blocks) ++ numbers tail in
    inr (first_some-append (front_faults (bytes ++ rest)) _ fault (ap first_some (front_faults-append bytes rest refl) ∙ first))

-- so is a fault of the live list or the roots, where the front has none
pub first_reason : (version : Version) (image : HeapImage) → HasFittingNumbers version image → (fault : Fault)
    → first_some (live_list_faults (from_tail version image)) ≡ Some fault → first_fault (listed_text version image) ≡ Some fault
first_reason version image fits fault first =
    ap first_fault (sym (append-nil (listed_text version image)))
    ∙ first_fault-append version image fits []
    ∙ first_some-append (live_list_faults (from_tail version image)) _ fault first

pub list_reason : (version : Version) (image : HeapImage) → HasFittingNumbers version image → (fault : Fault)
    → (fault ≡ Memory) ⊎ (first_some (live_list_faults (from_tail version image)) ≡ Some fault)
    → (fault ≡ Memory) ⊎ (first_fault (listed_text version image) ≡ Some fault)
list_reason version image fits fault (inl memory) = inl memory
list_reason version image fits fault (inr first) = inr (first_reason version image fits fault first)
