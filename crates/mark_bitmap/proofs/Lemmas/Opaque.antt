-- The image of opaque objects.
use Rattle.std.proofs.Common.{◌≡◌, ℕ, ◌+◌, ◌*◌, ◌/◌, ◌^◌, ◌<◌, List, [], ◌∷◌, length, map, take, refl, sym, ◌∙◌, ap, arith, eqb, cond}
use Rattle.std.specs.List.{range_with_len}
use Rattle.std.proofs.lemmas.Nat.{div-mul-add}
use Rattle.std.proofs.lemmas.List.FromFn.{length-map-range_with_len, get_or-map-range_with_len}
use Rattle.object_heap.specs.HeapImage.{HeapImage, heap_words, region_count, word_at}
use Rattle.mark_bitmap.specs.OpaqueObjects.{opaque_image, size_listed, header_if_any}

module _ (log most regions : ℕ) (live sizes : List ℕ) where
  abbrev image : HeapImage
  image = opaque_image log most regions live sizes

  pub words_long : heap_words image ≡ regions * 2 ^ log
  words_long = length-map-range_with_len (λ a. header_if_any (size_listed live sizes a)) 0 (regions * 2 ^ log)

  pub regions_are : 0 < 2 ^ log → region_count image ≡ regions
  regions_are some =
      let long : heap_words image ≡ regions * 2 ^ log + 0 = words_long ∙ omega arith in
      ap (λ n. n / 2 ^ log) long ∙ div-mul-add regions (2 ^ log) 0 some

  pub word_is : (a : ℕ) → a < regions * 2 ^ log → word_at image a ≡ header_if_any (size_listed live sizes a)
  word_is a inside = get_or-map-range_with_len (λ b. header_if_any (size_listed live sizes b)) 0 (regions * 2 ^ log) a a 0 inside (omega arith)

-- sizes behind those of the objects don't matter
pub listed-cut : (live sizes : List ℕ) (a : ℕ) → size_listed live sizes a ≡ size_listed live (take (length live) sizes) a
listed-cut [] sizes a = refl
listed-cut (b ∷ live) [] a = refl
listed-cut (b ∷ live) (n ∷ sizes) a = ap (λ r. cond (eqb a b) n r) (listed-cut live sizes a)

pub same_image : (log most regions : ℕ) (live sizes others : List ℕ) → take (length live) others ≡ take (length live) sizes → opaque_image log most regions live others ≡ opaque_image log most regions live sizes
same_image log most regions live sizes others same =
    let each : (a : ℕ) → header_if_any (size_listed live others a) ≡ header_if_any (size_listed live sizes a) = λ a. ap header_if_any (listed-cut live others a ∙ ap (λ s. size_listed live s a) same ∙ sym (listed-cut live sizes a)) in
    ap (λ ws. record (opaque_image log most regions live sizes) { words = ws }) (same_maps (λ a. header_if_any (size_listed live others a)) (λ a. header_if_any (size_listed live sizes a)) each (range_with_len 0 (regions * 2 ^ log)))
  where
    same_maps : (f g : ℕ → ℕ) → ((a : ℕ) → f a ≡ g a) → (xs : List ℕ) → map f xs ≡ map g xs
    same_maps f g h [] = refl
    same_maps f g h (x ∷ xs) = rw (h x, same_maps f g h xs)
