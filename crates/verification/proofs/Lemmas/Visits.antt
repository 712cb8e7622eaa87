-- The live objects of an image, visited in order: where each goes, and the gap before it.
use Rattle.std.proofs.Common.{◌≡◌, ℕ, ◌<◌, ◌≤◌, List, length, get_or, refl, sym, subst}
use Rattle.object_heap.specs.HeapImage.{HeapImage}
use Rattle.summary.specs.LiveObjects.{object_count, object_at}
use Rattle.summary.specs.NewAddresses.{new_address}
use Rattle.verification.specs.Compared.{IsGap, IsPlaced, AreKnown, behind}
use Rattle.verification.proofs.Lemmas.Placing.{place_end, is_placed, is_gap, behind_place}

-- one object, as a loop visits it
module _ (image : HeapImage) (known : AreKnown image) (items : List ℕ) (i next place : ℕ)
    (items_are : items ≡ image.live) (l : i < length items) (next_is : next ≡ behind (place_end image) i) (place_is : place ≡ new_address image (object_at image i)) where
  inside : i < object_count image
  inside = subst (λ (xs : List ℕ). i < length xs) items_are l

  pub low : next ≤ place
  low = subst (λ n. next ≤ n) (sym place_is) (subst (λ n. n ≤ new_address image (object_at image i)) (sym next_is) (behind_place image known i inside))

  pub run : next < place → IsGap image next place
  run h = subst (λ n. IsGap image next n) (sym place_is) (subst (λ n. IsGap image n (new_address image (object_at image i))) (sym next_is)
      (is_gap image known i inside (subst (λ n. n < new_address image (object_at image i)) next_is (subst (λ n. next < n) place_is h))))

  pub object : IsPlaced image (get_or items i 0) place
  object = subst (λ (xs : List ℕ). IsPlaced image (get_or xs i 0) place) (sym items_are) (subst (λ n. IsPlaced image (object_at image i) n) (sym place_is) (is_placed image known i inside))

-- the same, where the objects before it don't matter
pub placed_object : (image : HeapImage) → AreKnown image → (items : List ℕ) (i place : ℕ) → items ≡ image.live → i < length items → place ≡ new_address image (object_at image i)
    → IsPlaced image (get_or items i 0) place
placed_object image known items i place items_are l place_is =
    object image known items i (behind (place_end image) i) place items_are l refl place_is
