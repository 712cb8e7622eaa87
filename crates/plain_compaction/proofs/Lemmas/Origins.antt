-- The search for the word that goes to a place.
use Rattle.std.proofs.Common.{◌≡◌, ℕ, ◌+◌, ◌-◌, ◌≤◌, ◌<◌, List, length, get_or, refl, sym, ◌∙◌, ap, arith}
use Rattle.std.proofs.lemmas.List.{get_or-map}
use Rattle.std.specs.Prelude.{Some, None, Option}
use Rattle.object_heap.specs.HeapImage.{HeapImage, HasLiveList, size_at, end_of}
use Rattle.summary.specs.LiveObjects.{object_count, object_at}
use Rattle.summary.specs.NewAddresses.{new_address, new_end_of, new_live}
use Rattle.summary.specs.WordMoves.{origin, slid}
use Rattle.summary.specs.PlanLaws.{PlanLaws}

module _ (law : PlanLaws) (image : HeapImage) (sound : HasLiveList image) where
  -- p is the new address of a word of an object
  origin-object : (i p : ℕ) → i < object_count image → new_address image (object_at image i) ≤ p → p < new_end_of image (object_at image i)
      → origin image p ≡ Some (object_at image i + (p - new_address image (object_at image i)))
  origin-object i p l from below =
      let a : ℕ = object_at image i in
      let j : ℕ = p - new_address image a in
      let e : p ≡ new_address image a + j = omega arith in
      let live = law.is_live image sound i (a + j) l (omega arith) (omega arith) in
      ap (origin image) (e ∙ law.new_address-slid image sound i j l (omega arith))
      ∙ law.origin-slid image sound (a + j) (law.live_below image sound (a + j) live) live

  -- p is the new address of no object's word
  origin-nowhere : (p : ℕ) → ((i : ℕ) → i < object_count image → new_address image (object_at image i) ≤ p → p < new_end_of image (object_at image i) → ⊥) → origin image p ≡ None
  origin-nowhere p none = each (origin image p) refl
    where
      each : (o : Option ℕ) → origin image p ≡ o → o ≡ None
      each None e = refl
      each (Some q) e =
          let h = law.origin-Some image sound p q e in
          let to : slid image q ≡ p = h.1 in
          let o = law.owner image sound q h.0 in
          let i : ℕ = o.0 in
          let low : object_at image i ≤ q = o.2 in
          let high : q < end_of image (object_at image i) = o.3 in
          let j : ℕ = q - object_at image i in
          let at : object_at image i + j ≡ q = omega arith in
          let goes : new_address image (object_at image i) + j ≡ slid image q = law.new_address-slid image sound i j o.1 (omega arith) ∙ ap (slid image) at in
          absurd (none i o.1 (omega arith) (omega arith))

  place_is : (places : List ℕ) → places ≡ new_live image → (i : ℕ) → i < object_count image → get_or places i 0 ≡ new_address image (object_at image i)
  place_is places e i l = ap (λ xs. get_or xs i 0) e ∙ get_or-map (new_address image) image.live i 0 0 l

  pub origin-found : (places live : List ℕ) → places ≡ new_live image → live ≡ image.live → (i p : ℕ) → i < length live → get_or places i 0 ≤ p
      → p - get_or places i 0 < size_at image (get_or live i 0) → Some (get_or live i 0 + (p - get_or places i 0)) ≡ origin image p
  origin-found places live e f i p l from below =
      let n : length live ≡ object_count image = ap length f in
      let a : get_or live i 0 ≡ object_at image i = ap (λ xs. get_or xs i 0) f in
      let s : size_at image (get_or live i 0) ≡ size_at image (object_at image i) = ap (size_at image) a in
      let to = place_is places e i (omega arith) in
      let at : get_or live i 0 + (p - get_or places i 0) ≡ object_at image i + (p - new_address image (object_at image i)) = omega arith in
      ap Some at ∙ sym (origin-object i p (omega arith) (omega arith) (omega arith))

  pub origin-missed : (places live : List ℕ) → places ≡ new_live image → live ≡ image.live → (p : ℕ)
      → ((k : ℕ) → k < length live → get_or places k 0 ≤ p → p < get_or places k 0 + size_at image (get_or image.live k 0) → ⊥) → None ≡ origin image p
  origin-missed places live e f p none = sym (origin-nowhere p (λ i l from below.
      let n : length live ≡ object_count image = ap length f in
      let to = place_is places e i l in
      none i (omega arith) (omega arith) (omega arith)))
