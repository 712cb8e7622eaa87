-- The compaction of an upgraded image.
use Rattle.std.proofs.Common.{◌≡◌, ℕ, ◌+◌, ◌-◌, eqb, List, refl, sym, ◌∙◌, ap, arith, Option, Some, None}
use Rattle.std.proofs.lemmas.Bool.{ne_eqb, cond-false}
use Rattle.std.proofs.lemmas.Simd.{map-map}
use Rattle.std.specs.Prelude.{map, option_map}
use Rattle.object_heap.specs.HeapImage.{HeapImage, roots_or}
use Rattle.heap_image.specs.Upgrade.{upgraded, upgraded_version}
use Rattle.summary.specs.NewAddresses.{new_address, new_live}
use Rattle.summary.specs.Compaction.{redirected, compact}

module _ (image : HeapImage) where
  -- a root to an object leads to its new address
  root_moves : (a : ℕ) → redirected image (a + 1) ≡ new_address image a + 1
  root_moves a =
      let at : (a + 1) - 1 ≡ a = omega arith in
      cond-false (eqb (a + 1) 0) 0 (new_address image ((a + 1) - 1) + 1) (ne_eqb (a + 1) 0 (λ z. let no : ⊥ = omega arith in no)) ∙ ap (λ c. new_address image c + 1) at

  -- the new roots, by whether there were some before
  roots_alike : (roots : Option (List ℕ)) → map (redirected image) (roots_or (map (λ a. a + 1) image.live) roots) ≡ roots_or (map (λ a. a + 1) (new_live image)) (option_map (map (redirected image)) roots)
  roots_alike None =
      map-map (redirected image) (λ a. a + 1) image.live
      ∙ ap (λ (f : ℕ → ℕ). map f image.live) (λ i a. root_moves a i)
      ∙ sym (map-map (λ a. a + 1) (new_address image) image.live)
  roots_alike (Some roots) = refl

  pub collected_alike : compact (upgraded image) ≡ upgraded (compact image)
  collected_alike = ap (λ (roots : List ℕ). record (compact image) { version = upgraded_version image.version; roots = Some roots }) (roots_alike image.roots)
