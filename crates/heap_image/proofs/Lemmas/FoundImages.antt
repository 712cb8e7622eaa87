-- The image of the objects that were found in a heap.
use Rattle.std.proofs.Common.{◌≡◌, Option, None, List, [], ℕ, option_map, sym, subst, refl}
use Rattle.object_heap.specs.HeapImage.{HeapImage, IsValid, image_of, versioned_image_of}
use Rattle.object_heap.specs.declared.version.Version.{Version}
use Rattle.heap_image.specs.Checks.{AreOfTail, first_in_tail}
use Rattle.heap_image.specs.ImageText.{from_tail, first_some, live_list_faults}
use Rattle.heap_image.specs.Reading.{HasFittingNumbers}
use Rattle.heap_image.specs.declared.check.unchecked.Found.{Found}
use Rattle.heap_image.proofs.Lemmas.FromTail.{from_tail-IsValid}
use Rattle.heap_image.proofs.Lemmas.LiveListFaults.{IsFaultlessList}
use Rattle.heap_image.proofs.Lemmas.Refusing.{no_fault_of_parts, parts_are}

module _ (version : Version) (log allowance : ℕ) (blocks : List (List ℕ)) (tail : List ℕ) (found : Found) (is : AreOfTail (image_of log 0 blocks []) version tail found) where
  abbrev pub roots_of : Option (List ℕ)
  roots_of = option_map (λ v. v.items) found.roots

  abbrev pub image_of_found : HeapImage
  image_of_found = versioned_image_of version log allowance blocks found.live.items roots_of

  abbrev pub from : HeapImage
  from = from_tail version (image_of log allowance blocks tail)

  -- it is that of the numbers
  pub found_is : image_of_found ≡ from
  found_is = parts_are version log allowance blocks blocks tail found.live.items roots_of refl is.live is.roots

  -- without a fault of the heap's it has none
  pub found_sound : first_in_tail version (image_of log 0 blocks []) tail ≡ None → first_some (live_list_faults from) ≡ None
  found_sound none = no_fault_of_parts version log allowance blocks blocks tail refl none

  -- and then it is valid
  pub found_valid : IsFaultlessList → HasFittingNumbers version (image_of log allowance blocks tail) → first_some (live_list_faults from) ≡ None → IsValid image_of_found
  found_valid faultless fits sound = subst IsValid (sym found_is) (from_tail-IsValid faultless version (image_of log allowance blocks tail) fits sound)
