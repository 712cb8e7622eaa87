use Rattle.std.proofs.Common.{◌≡◌, Option, None, List, [], ℕ, map, option_map, sym, ap, subst, refl, ◌∙◌}
use Rattle.std.specs.List.{range_with_len}
use Rattle.std.specs.Prelude.{IfSome}
use Rattle.object_heap.specs.HeapImage.{HeapImage, IsValid, image_of, versioned_image_of, block_of, region_count, with_live}
use Rattle.object_heap.specs.Sizes.{AreSizes}
use Rattle.heap_image.specs.Checks.{AreOfTail, IsMemoryOr, first_in_tail}
use Rattle.heap_image.specs.ImageText.{from_tail, first_some, live_list_faults}
use Rattle.heap_image.specs.Reading.{HasFittingNumbers}
use Rattle.heap_image.specs.Unchecked.{numbers_in}
use Rattle.heap_image.specs.declared.check.unchecked.Found.{Found}
use Rattle.heap_image.specs.declared.from_regions.UncheckedParts.{UncheckedParts}
use Rattle.heap_image.proofs.Lemmas.Blocks.{blocks_are}
use Rattle.heap_image.proofs.Lemmas.FoundImages.{found_is, found_sound, found_valid, image_of_found}
use Rattle.heap_image.proofs.Lemmas.LiveListFaults.{IsFaultlessList}
use Rattle.heap_image.proofs.Lemmas.Refusing.{check_of_parts}
use Rattle.heap_image.proofs.from_regions.UncheckedParts.into_image.Goals as goal

-- the image of what was found in the heap of these parts is valid, and is that of the numbers
module _ (parts : UncheckedParts) (found : Found) (is : AreOfTail (image_of parts.region_log 0 parts.regions.items []) parts.version parts.tail.items found) where
  image_is : image_of_found parts.version parts.region_log parts.allowance parts.regions.items parts.tail.items found is ≡ from_tail parts.version (numbers_in parts)
  image_is = found_is parts.version parts.region_log parts.allowance parts.regions.items parts.tail.items found is

  sound_is : first_in_tail parts.version (image_of parts.region_log 0 parts.regions.items []) parts.tail.items ≡ None → first_some (live_list_faults (from_tail parts.version (numbers_in parts))) ≡ None
  sound_is = found_sound parts.version parts.region_log parts.allowance parts.regions.items parts.tail.items found is

  valid : IsFaultlessList → HasFittingNumbers parts.version (numbers_in parts) → first_some (live_list_faults (from_tail parts.version (numbers_in parts))) ≡ None
      → IsValid (image_of_found parts.version parts.region_log parts.allowance parts.regions.items parts.tail.items found is)
  valid = found_valid parts.version parts.region_log parts.allowance parts.regions.items parts.tail.items found is

-- the heap of these parts
heap_of : (parts : UncheckedParts) (heap : HeapImage) (blocks : List (List ℕ)) → heap ≡ image_of parts.region_log 0 blocks [] → blocks ≡ parts.regions.items → heap ≡ image_of parts.region_log 0 parts.regions.items []
heap_of parts heap blocks is same = is ∙ ap (λ bs. image_of parts.region_log 0 bs []) same

pub with_seen-requires-clause-parts : goal.with_seen-requires-clause-parts
with_seen-requires-clause-parts g c =
    let parts = c.args.self in
    let same = heap_of parts c.new-heap.result c.as_slice.result.now c.new-heap.ensures c.as_slice.ensures.value in
    let found = c.in-Ok.sound.found in
    let is = subst (λ heap. AreOfTail heap parts.version parts.tail.items found) same c.in-Ok.ensures.found in
    let none = subst (λ heap. first_in_tail parts.version heap parts.tail.items ≡ None) same c.in-Ok.ensures.faults.ok in
    record { whole = c.requires.regions; valid = valid parts found is c.objects_without_faults.ensures.live_list c.requires.fits (sound_is parts found is none) }

pub with_seen-requires-clause-begins : goal.with_seen-requires-clause-begins
with_seen-requires-clause-begins g c =
    let parts = c.args.self in
    let same = heap_of parts c.new-heap.result c.as_slice.result.now c.new-heap.ensures c.as_slice.ensures.value in
    let found = c.in-Ok.sound.found in
    (subst (λ heap. AreOfTail heap parts.version parts.tail.items found) same c.in-Ok.ensures.found).seen.begins

pub with_seen-requires-clause-sizes : goal.with_seen-requires-clause-sizes
with_seen-requires-clause-sizes g c =
    let parts = c.args.self in
    let same = heap_of parts c.new-heap.result c.as_slice.result.now c.new-heap.ensures c.as_slice.ensures.value in
    let sound = c.in-Ok.sound in
    subst (λ heap. IfSome sound.sizes (λ sizes. AreSizes (with_live heap sound.found.live.items) sizes.items)) same c.in-Ok.ensures.sizes

pub returns-in-Ok-clause-image : goal.returns-in-Ok-clause-image
returns-in-Ok-clause-image g c =
    let parts = c.args.self in
    let same = heap_of parts c.new-heap.result c.as_slice.result.now c.new-heap.ensures c.as_slice.ensures.value in
    let found = c.in-Ok.sound.found in
    c.with_seen.ensures ∙ image_is parts found (subst (λ heap. AreOfTail heap parts.version parts.tail.items found) same c.in-Ok.ensures.found)

pub returns-in-Ok-clause-blocks : goal.returns-in-Ok-clause-blocks
returns-in-Ok-clause-blocks g c =
    let parts = c.args.self in
    let same = heap_of parts c.new-heap.result c.as_slice.result.now c.new-heap.ensures c.as_slice.ensures.value in
    let found = c.in-Ok.sound.found in
    let is = subst (λ heap. AreOfTail heap parts.version parts.tail.items found) same c.in-Ok.ensures.found in
    let none = subst (λ heap. first_in_tail parts.version heap parts.tail.items ≡ None) same c.in-Ok.ensures.faults.ok in
    let good = valid parts found is c.objects_without_faults.ensures.live_list c.requires.fits (sound_is parts found is none) in
    blocks_are c.blocks_joined.ensures.count c.blocks_joined.ensures.parts parts.version parts.region_log parts.allowance parts.regions.items found.live.items (option_map (λ v. v.items) found.roots) (record { whole = c.requires.regions; valid = good })
    ∙ ap (λ image. map (block_of image) (range_with_len 0 (region_count image))) (sym c.with_seen.ensures)

pub returns-in-Ok-clause-sound : goal.returns-in-Ok-clause-sound
returns-in-Ok-clause-sound g c =
    let parts = c.args.self in
    let same = heap_of parts c.new-heap.result c.as_slice.result.now c.new-heap.ensures c.as_slice.ensures.value in
    let found = c.in-Ok.sound.found in
    sound_is parts found (subst (λ heap. AreOfTail heap parts.version parts.tail.items found) same c.in-Ok.ensures.found) (subst (λ heap. first_in_tail parts.version heap parts.tail.items ≡ None) same c.in-Ok.ensures.faults.ok)

pub returns-in-Err-clause-fault : goal.returns-in-Err-clause-fault
returns-in-Err-clause-fault g c =
    let parts = c.args.self in
    let same = heap_of parts c.new-heap.result c.as_slice.result.now c.new-heap.ensures c.as_slice.ensures.value in
    let fault = c.in-Err.fault in
    check_of_parts parts.version parts.region_log parts.allowance parts.regions.items parts.regions.items parts.tail.items refl fault (subst (λ heap. IsMemoryOr (first_in_tail parts.version heap parts.tail.items) fault) same c.in-Err.ensures.faults.fault)
