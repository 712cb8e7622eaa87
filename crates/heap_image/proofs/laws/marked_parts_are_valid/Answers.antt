use Rattle.std.proofs.Common.{◌≡◌, ◌∙◌, ap, refl, subst, sym, true, List, ℕ, Some, None, []}
use Rattle.std.proofs.lemmas.Bool.{true≢false}
use Rattle.object_heap.specs.HeapImage.{IsValid, image_of}
use Rattle.heap_image.specs.ImageText.{first_some, from_tail, live_list_faults}
use Rattle.object_heap.specs.Version.{has_roots}
use Rattle.object_heap.specs.declared.version.Version.{Version}
use Rattle.object_heap.specs.declared.version.Version.TheVariants.{One, Two, Three}
use Rattle.heap_image.proofs.Lemmas.FromTail.{from_tail-IsValid, rooted_faults, rooted_live}
use Rattle.heap_image.proofs.Lemmas.Refusing.{no_fault_of_parts, parts_are}
use Rattle.heap_image.proofs.laws.marked_parts_are_valid.Goals as goal

-- in a version with roots the numbers after the words are the roots
roots_are : (version : Version) (log : ℕ) (blocks : List (List ℕ)) (roots : List ℕ) → has_roots version ≡ true
    → Some roots ≡ (from_tail version (image_of log 0 blocks roots)).roots
roots_are One log blocks roots some = absurd (true≢false (sym some))
roots_are Two log blocks roots some = refl
roots_are Three log blocks roots some = refl

pub returns : goal.returns
returns c = λ version log allowance blocks roots live some fits none found.
    let tail = rooted_live version (image_of log 0 blocks []) roots live some found in
    let faultless : first_some (live_list_faults (from_tail version (image_of log 0 blocks roots))) ≡ None =
    sym (ap first_some (rooted_faults version (image_of log 0 blocks roots) some)) ∙ none in
    subst IsValid (sym (parts_are version log allowance blocks blocks roots live (Some roots) refl tail (roots_are version log blocks roots some)))
    (from_tail-IsValid c.objects_without_faults.ensures.live_list version (image_of log allowance blocks roots) fits (no_fault_of_parts version log allowance blocks blocks roots refl faultless))
