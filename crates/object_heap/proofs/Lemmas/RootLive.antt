-- The roots of an image with roots.
use Rattle.std.proofs.Common.{◌≡◌, ℕ, ◌+◌, ◌-◌, ◌≤◌, ◌<◌, inl, inr, true, List, [], length, get_or, ◌∙◌, ap, arith, eqb}
use Rattle.std.proofs.lemmas.Bool.{cases_eq, eq-eqb, or_left, or_right}
use Rattle.std.proofs.lemmas.List.Elements.{All-from_get_or}
use Rattle.std.specs.Prelude.{All, IsTrue, Option, None, Some, IfSome}
use Rattle.std.specs.List.{list_any}
use Rattle.object_heap.specs.HeapImage.{HeapImage, AreRoots, IsValid, roots_or, roots_of, heap_words, is_null_or_live, leads_to, reachable}
use Rattle.object_heap.specs.Reachable.{is_listed}
use Rattle.object_heap.proofs.Lemmas.Listed.{any_listed}
use Rattle.object_heap.proofs.Lemmas.Reaches.{reachable-IsClosed}
use Rattle.object_heap.proofs.Lemmas.RootsToLive.{listed_at}

-- a root is null or leads to a live object
pub root_leads : (image : HeapImage) (roots : List ℕ) → image.live ≡ reachable image roots → (w : ℕ) → w ≤ heap_words image → list_any (λ x. eqb w x) roots ≡ true → is_null_or_live image w ≡ true
root_leads image roots lives w l root = elim (cases_eq w 0) [
  | inl null ↦ or_left (eqb w 0) (list_any (λ a. eqb w (a + 1)) image.live) (eq-eqb w 0 null)
  | inr some ↦
      let b : ℕ = w - 1 in
      let is : w ≡ b + 1 = omega arith in
      let leads : list_any (λ x. leads_to x b) roots ≡ true = any_listed (λ x. leads_to x b) roots w root (eq-eqb w (b + 1) is) in
      let reached : is_listed image.live b ≡ true = ap (λ xs. is_listed xs b) lives ∙ (reachable-IsClosed image roots).from_roots b (omega arith) leads in
      or_right (eqb w 0) (list_any (λ a. eqb w (a + 1)) image.live) (any_listed (λ a. eqb w (a + 1)) image.live b reached (eq-eqb w (b + 1) is))
]

pub roots-live : (image : HeapImage) → IsValid image → All (λ w. IsTrue (is_null_or_live image w)) (roots_of image)
roots-live image valid = All-from_get_or (λ w. IsTrue (is_null_or_live image w)) (roots_of image) 0 (each image.roots valid.rooted)
  where
    each : (roots : Option (List ℕ)) → IfSome roots (AreRoots image) → (i : ℕ) → i < length (roots_or [] roots) → is_null_or_live image (get_or (roots_or [] roots) i 0) ≡ true
    each None h i l = let no : ⊥ = omega arith in absurd no
    each (Some roots) h i l = root_leads image roots h.reached (get_or roots i 0) (h.inside i 0 l) (listed_at roots i l)
