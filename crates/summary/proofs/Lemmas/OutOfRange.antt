-- Regions out of range, and places in a region.
use Rattle.std.proofs.Common.{◌≡◌, ℕ, ◌+◌, ◌-◌, ◌*◌, ◌≤◌, ◌<◌, get_or, refl, ap, subst, arith}
use Rattle.std.specs.Prelude.{Option, Some, None}
use Rattle.object_heap.specs.HeapImage.{HeapImage, HasLiveList, IsValid, region_count, region_of, region_words, start_of}
use Rattle.summary.proofs.Lemmas.LiveWords.{live_end-le}
use Rattle.summary.specs.NewAddresses.{new_address}
use Rattle.summary.specs.Plan.{place_in}
use Rattle.summary.specs.RegionData.{deferred}
use Rattle.summary.proofs.Lemmas.Graph.{new-down}
use Rattle.summary.proofs.Lemmas.Objects.{deferred-None, deferred-Some}
use Rattle.summary.proofs.Lemmas.Readers.{region_below}
use Rattle.summary.proofs.Lemmas.Regions.{region_low}

-- no deferred object begins there
pub deferred-out_of_range : (image : HeapImage) → IsValid image → (d : ℕ) → region_count image ≤ d → deferred image d ≡ None
deferred-out_of_range image valid d high = deferred-None image valid.live_list d (λ i l late there.
    let a : ℕ = get_or image.live i 0 in
    let down = new-down image valid.live_list i l in
    let some = (valid.live_list.sound i 0 l).header in
    let end = live_end-le image valid.live_list i l in
    let low = region_below image valid (new_address image a) (omega arith) in
    omega arith)

-- a place in a region gives back the new address of the deferred object
pub place-back : (image : HeapImage) → HasLiveList image → (d place : ℕ) (o : Option ℕ) → deferred image d ≡ o → place ≡ place_in image d o
    → (place ≡ 0 → None ≡ o) × (0 < place → Some (start_of image d + place - 1) ≡ o)
place-back image sound d place None e is = ((λ _. refl), λ some. absurd (let no : ⊥ = omega arith in no))
place-back image sound d place (Some a) e is =
    let found = deferred-Some image sound d a e in
    let at : region_of image a ≡ d = found.4 in
    let first : d * region_words image ≤ a = subst (λ (n : ℕ). n * region_words image ≤ a) at (region_low (region_words image) a) in
    let same : start_of image d + (a - start_of image d + 1) - 1 ≡ a = omega arith in
    let back : start_of image d + place - 1 ≡ a = omega arith in
    ((λ none. absurd (let no : ⊥ = omega arith in no)), λ some. ap Some back)
