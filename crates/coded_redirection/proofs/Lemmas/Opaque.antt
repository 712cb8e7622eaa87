-- The image of opaque objects that have the addresses and sizes of an image's objects.
use Rattle.std.proofs.Common.{◌≡◌, ℕ, zero, suc, ◌*◌, ◌^◌, ◌<◌, inl, inr, List, [], ◌∷◌, length, get_or, refl, sym, ◌∙◌, ap, arith, eqb}
use Rattle.std.proofs.lemmas.Bool.{cases_Bool, cond-true, cond-false, eq-eqb, eqb-true}
use Rattle.std.proofs.lemmas.List.Elements.{All-from_get_or}
use Rattle.std.proofs.lemmas.List.FromFn.{length-map-range_with_len, get_or-map-range_with_len}
use Rattle.std.specs.Prelude.{All}
use Rattle.object_heap.specs.Header.{object_header, size_of}
use Rattle.object_heap.specs.HeapImage.{HeapImage, HasLiveList, heap_words, size_at}
use Rattle.object_heap.specs.Sizes.{AreSizesOf}
use Rattle.mark_bitmap.specs.OpaqueObjects.{opaque_image, size_listed, header_if_any}
use Rattle.coded_redirection.specs.SamePlan.{HasSameObjects, HasSamePlan}

-- the size that is listed for an address, if each is what a function says of its address
listed : (size : ℕ → ℕ) (live sizes : List ℕ) → ((j : ℕ) → j < length live → get_or sizes j 0 ≡ size (get_or live j 0))
    → (i : ℕ) → i < length live → size_listed live sizes (get_or live i 0) ≡ size (get_or live i 0)
listed size [] sizes each i l = let no : ⊥ = omega arith in absurd no
listed size (b ∷ live) [] each i l = each i l
listed size (b ∷ live) (n ∷ sizes) each zero l = cond-true (eqb b b) n (size_listed live sizes b) (eq-eqb b b refl) ∙ each 0 (omega arith)
listed size (b ∷ live) (n ∷ sizes) each (suc i) l =
    let a : ℕ = get_or live i 0 in
    elim (cases_Bool (eqb a b)) [
      | inl here ↦ cond-true (eqb a b) n (size_listed live sizes a) here ∙ each 0 (omega arith) ∙ ap size (sym (eqb-true a b here))
      | inr other ↦ cond-false (eqb a b) n (size_listed live sizes a) other ∙ listed size live sizes (λ j m. each (suc j) (omega arith)) i (omega arith)
    ]

size_of_header : (n : ℕ) → n < 4294967296 → size_of (header_if_any n) ≡ n
size_of_header n small = elim (cases_Bool (eqb n 0)) [
  | inl none ↦ let e = eqb-true n 0 none in ap size_of (cond-true (eqb n 0) 0 (object_header n 0) none) ∙ omega arith
  | inr some ↦ ap size_of (cond-false (eqb n 0) 0 (object_header n 0) some) ∙ omega arith
]

module _ (image : HeapImage) (log allowance regions : ℕ) (sizes : List ℕ) (are : AreSizesOf image image.live sizes)
    (small : All (λ a. size_at image a < 2 ^ 32) image.live) (inside : All (λ a. a < regions * 2 ^ log) image.live) where
  abbrev opaque : HeapImage
  opaque = opaque_image log allowance regions image.live sizes

  size_there : (i : ℕ) → i < length image.live → size_at opaque (get_or image.live i 0) ≡ size_at image (get_or image.live i 0)
  size_there i l =
      let a : ℕ = get_or image.live i 0 in
      let few : size_at image a < 4294967296 = small i 0 l in
      ap size_of (get_or-map-range_with_len (λ b. header_if_any (size_listed image.live sizes b)) 0 (regions * 2 ^ log) a a 0 (inside i 0 l) (omega arith))
      ∙ ap (λ n. size_of (header_if_any n)) (listed (size_at image) image.live sizes are i l)
      ∙ size_of_header (size_at image a) few

  pub opaque-HasSameObjects : HasSameObjects image opaque
  opaque-HasSameObjects = record { live = refl; sizes = All-from_get_or (λ a. size_at opaque a ≡ size_at image a) image.live 0 size_there }

pub live-inside : (log allowance regions : ℕ) (live sizes : List ℕ) → HasLiveList (opaque_image log allowance regions live sizes) → All (λ a. a < regions * 2 ^ log) live
live-inside log allowance regions live sizes sound = λ k d l.
    let long : heap_words (opaque_image log allowance regions live sizes) ≡ regions * 2 ^ log = length-map-range_with_len (λ b. header_if_any (size_listed live sizes b)) 0 (regions * 2 ^ log) in
    let some = (sound.sound k d l).header in
    let low = (sound.sound k d l).inside in
    omega (arith, long, some, low)

pub opaque-HasSamePlan : (image : HeapImage) (regions : ℕ) (sizes : List ℕ) → AreSizesOf image image.live sizes
    → All (λ a. size_at image a < 2 ^ 32) image.live → All (λ a. a < regions * 2 ^ image.region_log) image.live
    → HasSamePlan image (opaque_image image.region_log image.allowance regions image.live sizes)
opaque-HasSamePlan image regions sizes are small inside = record {
  objects = opaque-HasSameObjects image image.region_log image.allowance regions sizes are small inside;
  region_log = refl;
  allowance = refl;
}
