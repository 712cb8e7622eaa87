use Rattle.std.proofs.Common.{◌≡◌, ℕ, ◌∙◌, ◌≤◌, Option, Some, None, IfSome, IfNone, Bor, ap, subst, arith}
use Rattle.std.specs.Slice.{IsItemAt}
use Rattle.object_heap.specs.HeapImage.{HeapImage}
use Rattle.summary.specs.RegionData.{fill_count}
use Rattle.region_cells.specs.Cells.{place_of, places}
use Rattle.region_cells.specs.Views.{ImageRegion}
use Rattle.region_cells.proofs.Lemmas.Places.{length-places, place-at}
use Rattle.region_cells.proofs.cells.Cells.slot.Goals as goal

-- what a look-up among the cells finds
found : (image : HeapImage) (r : ℕ) (slot : Option (Bor ImageRegion)) → IsItemAt (places image) r slot → IfSome slot (λ s. s.now ≡ place_of image r)
found image r None at = tt
found image r (Some slot) at = at.1 ∙ place-at image r slot.now (omega (arith, at.3.0, length-places image))

missing : (image : HeapImage) (r : ℕ) (slot : Option (Bor ImageRegion)) → IsItemAt (places image) r slot → IfNone slot (fill_count image ≤ r)
missing image r None at = omega (arith, at.3, length-places image)
missing image r (Some slot) at = tt

pub returns-clause-place : goal.returns-clause-place
returns-clause-place c =
    let r = c.args.region in
    let image = c.args.self.now in
    let all = c.self.invariant.slots_are ∙ ap places c.self.view_is in
    let got : IsItemAt (places image) r c.get.result = subst (λ xs. IsItemAt xs r c.get.result) (c.deref.ensures.value ∙ all) c.get.ensures.lookup in
    found image r c.get.result got

pub returns-clause-other : goal.returns-clause-other
returns-clause-other c =
    let r = c.args.region in
    let image = c.args.self.now in
    let all = c.self.invariant.slots_are ∙ ap places c.self.view_is in
    let got : IsItemAt (places image) r c.get.result = subst (λ xs. IsItemAt xs r c.get.result) (c.deref.ensures.value ∙ all) c.get.ensures.lookup in
    missing image r c.get.result got
