-- Live objects with sound headers, and references that are null or to each other.
use Rattle.std.proofs.Common.{◌≡◌, ℕ, ◌+◌, ◌-◌, ◌≤◌, ◌<◌, inl, inr, true, false, not, List, [], ◌∷◌, length, get_or, refl, sym, ◌∙◌, ap, subst, arith, eqb, Option, None, Some}
use Rattle.std.proofs.lemmas.Bool.{cases_eq, eq-eqb, or_left, or_right, and_from}
use Rattle.std.proofs.lemmas.List.Folds.{list_any_at}
use Rattle.std.proofs.lemmas.List.FromFn.{get_or-range_with_len, length-range_with_len}
use Rattle.std.specs.Prelude.{All, option_map}
use Rattle.std.specs.List.{list_any, range_with_len}
use Rattle.object_heap.specs.HeapImage.{HeapImage, heap_words, with_live, references_at, reference_at, is_null_or_live, is_unsound, leads_to, refers_to, reachable}
use Rattle.heap_image.specs.ImageText.{first_some, first_object_fault}
use Rattle.object_heap.specs.ObjectFaults.{is_dangling, fields_of, overlapping, dangling}
use Rattle.image_streams.specs.declared.fault.Fault.TheVariants.{Header, Overlap, Reference}
use Rattle.heap_marking.specs.Marking.{IsWellFormed, AreReachedWell}
use Rattle.object_heap.specs.Reachable.{is_listed, IsClosed}
use Rattle.heap_marking.specs.Soundness.{AreWellFormed}
use Rattle.heap_image.proofs.Lemmas.Faultless.{find_none, find_none_in_flat_map, find_none_in_fields}
use Rattle.heap_image.proofs.Lemmas.Listed.{any_listed, listed_at}

-- what is reached, if nothing was found to be wrong on the way
module _ (heap : HeapImage) (roots live : List ℕ) (closed : IsClosed heap roots (is_listed (reachable heap roots))) (inside : All (λ a. a < heap_words heap) live) (is : live ≡ reachable heap roots) (well : AreReachedWell heap roots) where
  abbrev image : HeapImage
  image = with_live heap live

  listed : (i : ℕ) → i < length live → is_listed (reachable heap roots) (get_or live i 0) ≡ true
  listed i l = subst (λ xs. is_listed xs (get_or live i 0) ≡ true) is (listed_at live i l)

  formed : (i : ℕ) → i < length live → IsWellFormed heap (get_or live i 0)
  formed i l = well (get_or live i 0) (inside i 0 l) (listed i l)

  -- a sound object with a reference to an address refers to it
  refers : (a b f : ℕ) → is_unsound heap a ≡ false → f < references_at heap a → reference_at heap a f ≡ b + 1 → refers_to heap a b ≡ true
  refers a b f sound l e =
      let n : ℕ = references_at heap a in
      let at : get_or (range_with_len 0 n) f 0 ≡ f = get_or-range_with_len 0 n f 0 l ∙ omega arith in
      let inside : f < length (range_with_len 0 n) = rw (length-range_with_len 0 n) l in
      and_from (not (is_unsound heap a)) (list_any (λ f. leads_to (reference_at heap a f) b) (range_with_len 0 n)) (ap not sound)
      (list_any_at (λ f. leads_to (reference_at heap a f) b) (range_with_len 0 n) f 0 inside (ap (λ k. leads_to (reference_at heap a k) b) at ∙ eq-eqb (reference_at heap a f) (b + 1) e))

  leads : (i f : ℕ) → i < length live → f < references_at image (get_or live i 0) → is_null_or_live image (reference_at image (get_or live i 0) f) ≡ true
  leads i f l m =
      let a : ℕ = get_or live i 0 in
      let w : ℕ = reference_at image a f in
      elim (cases_eq w 0) [
        | inl null ↦ or_left (eqb w 0) (list_any (λ b. eqb w (b + 1)) live) (eq-eqb w 0 null)
        | inr some ↦
            let b : ℕ = w - 1 in
            let high : w ≤ heap_words heap = (formed i l).inside f m in
            let e : w ≡ b + 1 = omega arith in
            let reached : is_listed (reachable heap roots) b ≡ true =
            closed.from_objects a b (listed i l) (refers a b f (formed i l).sound m e) (omega arith) in
            or_right (eqb w 0) (list_any (λ b. eqb w (b + 1)) live) (any_listed (λ b. eqb w (b + 1)) live b (subst (λ xs. is_listed xs b ≡ true) (sym is) reached) (eq-eqb w (b + 1) e))
      ]

  pub reached_well : AreWellFormed image
  reached_well = record {
    headers = find_none (is_unsound image) live 0 (λ i l. (formed i l).sound);
    references = find_none_in_flat_map (is_dangling image) (fields_of image) live (λ i l. find_none_in_fields (is_dangling image) (get_or live i 0) 0 (references_at image (get_or live i 0)) (λ f m. ap not (leads i f l (omega arith))));
  }

-- only an overlap can be wrong with well-formed objects
pub only_overlaps : (image : HeapImage) (found : Option ℕ) → AreWellFormed image → found ≡ overlapping image → first_object_fault image ≡ option_map Overlap found
only_overlaps image found well is =
    ap (λ o. first_some (option_map Header o ∷ option_map Overlap (overlapping image) ∷ option_map (λ (p : ℕ × ℕ). Reference p.0 p.1) (dangling image) ∷ [])) well.headers
    ∙ ap (λ o. first_some (option_map Overlap (overlapping image) ∷ option_map (λ (p : ℕ × ℕ). Reference p.0 p.1) o ∷ [])) well.references
    ∙ ap (λ o. first_some (option_map Overlap o ∷ None ∷ [])) (sym is)
    ∙ whole found
  where
    whole : (o : Option ℕ) → first_some (option_map Overlap o ∷ None ∷ []) ≡ option_map Overlap o
    whole None = refl
    whole (Some x) = refl
