use Rattle.std.proofs.Common.{◌≡◌, refl, ap, ◌∙◌}
use Rattle.std.proofs.lemmas.Result.{IfErr-weaker, IfOk-weaker}
use Rattle.object_heap.specs.HeapImage.{HeapImage}
use Rattle.heap_image.specs.Checks.{IsMemoryOr}
use Rattle.heap_image.specs.ImageText.{text, listed_text, from_tail, first_fault, first_some, live_list_faults}
use Rattle.heap_image.specs.Unchecked.{numbers_in}
use Rattle.heap_image.specs.declared.from_regions.RefusedRegions.{RefusedRegions}
use Rattle.heap_image.proofs.Lemmas.FromTail.{text-from_tail}
use Rattle.heap_image.proofs.Lemmas.Unchecked.{list_reason}
use Rattle.heap_image.proofs.from_regions.image_of_regions.Goals as goal

pub returns-in-Ok-clause-text : goal.returns-in-Ok-clause-text
returns-in-Ok-clause-text g c =
    let version = c.args.parts.version in
    let image = numbers_in c.args.parts in
    IfOk-weaker c.into_image.result (λ (made : HeapImage). made ≡ from_tail version image) (λ made. text made ≡ listed_text version image) (λ made is. ap text is ∙ text-from_tail version image refl refl) c.into_image.ensures.image

pub returns-in-Ok-clause-fault : goal.returns-in-Ok-clause-fault
returns-in-Ok-clause-fault g c =
    let version = c.args.parts.version in
    let image = numbers_in c.args.parts in
    IfErr-weaker c.into_image.result (λ (refused : RefusedRegions). IsMemoryOr (first_some (live_list_faults (from_tail version image))) refused.fault) (λ refused. IsMemoryOr (first_fault (listed_text version image)) refused.fault) (λ refused why. list_reason version image c.in-Ok.ensures.fits refused.fault why) c.into_image.ensures.fault
