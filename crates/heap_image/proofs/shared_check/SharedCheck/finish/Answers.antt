use Rattle.std.proofs.Common.{◌≡◌, Option, None, Some, List, [], ℕ, map, option_map, sym, ap, subst, ◌∙◌, refl}
use Rattle.std.specs.List.{range_with_len}
use Rattle.image_streams.specs.declared.fault.Fault.{Fault}
use Rattle.object_heap.specs.HeapImage.{HeapImage, IsValid, image_of, block_of, region_count, with_live}
use Rattle.object_heap.specs.declared.version.Version.{Version}
use Rattle.heap_image.specs.Checks.{AreOfTail, first_in_tail}
use Rattle.heap_image.specs.ImageText.{first_fault, first_object_fault}
use Rattle.heap_image.specs.SharedCheck.{UncheckedHeap, IsCheckOf, bytes_of, image_in, listed_in, numbers_of}
use Rattle.heap_image.specs.declared.check.unchecked.Found.{Found}
use Rattle.heap_image.proofs.Lemmas.Blocks.{blocks_are}
use Rattle.heap_image.proofs.Lemmas.FoundImages.{found_is, found_sound, found_valid, image_of_found}
use Rattle.heap_image.proofs.Lemmas.LiveListFaults.{IsFaultlessList}
use Rattle.heap_image.proofs.Lemmas.Refusing.{fault_of_parts}
use Rattle.heap_image.proofs.Lemmas.Unchecked.{first_reason}
use Rattle.heap_image.proofs.shared_check.SharedCheck.finish.Goals as goal

abbrev heap_of : Version → ℕ → ℕ → List (List ℕ) → List ℕ → UncheckedHeap
heap_of version log allowance blocks tail = record { version = version; region_log = log; allowance = allowance; blocks = blocks; tail = tail }

-- what is known of the objects of a check once they have been checked in their heap
module _ (heap : UncheckedHeap) (found : Found) (marks : Option (List ℕ)) (pieces words : HeapImage) (known : IsCheckOf heap found marks pieces) (are : words ≡ listed_in heap []) where
  told : (answer : Option Fault) → first_object_fault (with_live words found.live.items) ≡ answer → first_in_tail heap.version (listed_in heap []) heap.tail ≡ answer
  told answer first = known.found.ordered ∙ subst (λ ws. first_object_fault (with_live ws found.live.items) ≡ answer) are first

  reason : (fault : Fault) → first_object_fault (with_live words found.live.items) ≡ Some fault → first_fault (bytes_of heap) ≡ Some fault
  reason fault first = first_reason heap.version (numbers_of heap) known.fits fault
      (fault_of_parts heap.version heap.region_log heap.allowance heap.blocks heap.blocks heap.tail refl fault (told (Some fault) first))

  module _ (sound : Found) (same : sound ≡ found) where
    is : AreOfTail (listed_in heap []) heap.version heap.tail sound
    is = subst (AreOfTail (listed_in heap []) heap.version heap.tail) (sym same) known.found

    abbrev image : HeapImage
    image = image_of_found heap.version heap.region_log heap.allowance heap.blocks heap.tail sound is

    image_is : image ≡ image_in heap
    image_is = found_is heap.version heap.region_log heap.allowance heap.blocks heap.tail sound is

    valid : IsFaultlessList → first_object_fault (with_live words found.live.items) ≡ None → IsValid image
    valid faultless none = found_valid heap.version heap.region_log heap.allowance heap.blocks heap.tail sound is faultless known.fits
        (found_sound heap.version heap.region_log heap.allowance heap.blocks heap.tail sound is (told None none))

pub with_seen-requires-clause-parts : goal.with_seen-requires-clause-parts
with_seen-requires-clause-parts c =
    let s = c.self.inside in
    let heap = heap_of s.version s.region_log s.allowance s.regions.items s.tail.value.items in
    let are = c.new-heap.ensures ∙ ap (λ bs. image_of s.region_log 0 bs []) c.as_slice.ensures.value in
    record {
      whole = c.self.invariant.regions;
      valid = valid heap s.found s.references s.noted c.new-heap.result c.self.invariant are c.in-Ok.sound.found c.in-Ok.ensures.found c.objects_without_faults.ensures.live_list c.in-Ok.ensures.faults.ok;
    }

pub returns-in-Ok-clause-image : goal.returns-in-Ok-clause-image
returns-in-Ok-clause-image c =
    let s = c.self.inside in
    let heap = heap_of s.version s.region_log s.allowance s.regions.items s.tail.value.items in
    let are = c.new-heap.ensures ∙ ap (λ bs. image_of s.region_log 0 bs []) c.as_slice.ensures.value in
    c.with_seen.ensures
    ∙ image_is heap s.found s.references s.noted c.new-heap.result c.self.invariant are c.in-Ok.sound.found c.in-Ok.ensures.found
    ∙ ap image_in c.self.view_is

pub returns-in-Ok-clause-blocks : goal.returns-in-Ok-clause-blocks
returns-in-Ok-clause-blocks c =
    let s = c.self.inside in
    let heap = heap_of s.version s.region_log s.allowance s.regions.items s.tail.value.items in
    let are = c.new-heap.ensures ∙ ap (λ bs. image_of s.region_log 0 bs []) c.as_slice.ensures.value in
    let good = valid heap s.found s.references s.noted c.new-heap.result c.self.invariant are c.in-Ok.sound.found c.in-Ok.ensures.found c.objects_without_faults.ensures.live_list c.in-Ok.ensures.faults.ok in
    ap (λ (h : UncheckedHeap). h.blocks) (sym c.self.view_is)
    ∙ blocks_are c.blocks_joined.ensures.count c.blocks_joined.ensures.parts s.version s.region_log s.allowance s.regions.items c.in-Ok.sound.found.live.items (option_map (λ v. v.items) c.in-Ok.sound.found.roots) (record { whole = c.self.invariant.regions; valid = good })
    ∙ ap (λ image. map (block_of image) (range_with_len 0 (region_count image))) (sym c.with_seen.ensures)

pub returns-clause-fault : goal.returns-clause-fault
returns-clause-fault c =
    let s = c.self.inside in
    let heap = heap_of s.version s.region_log s.allowance s.regions.items s.tail.value.items in
    let are = c.new-heap.ensures ∙ ap (λ bs. image_of s.region_log 0 bs []) c.as_slice.ensures.value in
    subst (λ (h : UncheckedHeap). first_fault (bytes_of h) ≡ Some c.in-Err.fault) c.self.view_is
    (reason heap s.found s.references s.noted c.new-heap.result c.self.invariant are c.in-Err.fault c.in-Err.ensures.faults.fault)
