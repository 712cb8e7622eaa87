-- An image with another allowance.
use Rattle.std.proofs.Common.{◌≡◌, ℕ, zero, suc, ◌<◌, ◌^◌, List, refl, sym, ◌∙◌, ap}
use Rattle.std.specs.Prelude.{Option, None, Some, IfSome}
use Rattle.object_heap.specs.HeapImage.{HeapImage, IsValid, AreRoots, heap_words, reached_in, reachable, with_referred}
use Rattle.verification.specs.OtherPrefix.{allowing}

module _ (image : HeapImage) (allowance : ℕ) where
  reached_same : (roots : List ℕ) (n : ℕ) → reached_in (allowing allowance image) roots n ≡ reached_in image roots n
  reached_same roots zero = refl
  reached_same roots (suc n) = ap (with_referred image) (reached_same roots n)

  reachable_same : (roots : List ℕ) → reachable (allowing allowance image) roots ≡ reachable image roots
  unfolding reachable
  reachable_same roots = reached_same roots (heap_words image)

  roots_stay : (roots : Option (List ℕ)) → IfSome roots (AreRoots image) → IfSome roots (AreRoots (allowing allowance image))
  roots_stay None none = none
  roots_stay (Some roots) are = record { few = are.few; counted = are.counted; inside = are.inside; reached = are.reached ∙ sym (reachable_same roots) }

  -- it is as valid
  pub allowing_valid : allowance < 2 ^ 64 → IsValid image → IsValid (allowing allowance image)
  allowing_valid fits valid = record {
    own = valid.own;
    lawful = valid.lawful;
    limits = valid.limits;
    allowed = valid.allowed;
    allowance_fits = fits;
    words_fit = valid.words_fit;
    live_list = record {
      sound = λ i d l.
          let sound = valid.live_list.sound i d l in
          record { object = sound.object; header = sound.header; references = sound.references; inside = sound.inside };
      apart = valid.live_list.apart;
      references = valid.live_list.references;
    };
    versioned = valid.versioned;
    rooted = roots_stay image.roots valid.rooted;
  }
