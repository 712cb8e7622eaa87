-- The labels of the objects of a list.
use Rattle.std.proofs.Common.{◌≡◌, ℕ, ◌+◌, ◌<◌, ◌≤◌, List, [], ◌∷◌, ◌++◌, length, refl, sym, ◌∙◌, ap, ap₂, subst, All, Option, Some, arith}
use Rattle.std.specs.Prelude.{map, slice_get, take}
use Rattle.std.specs.List.Sorted.{IsStrictlyIncreasing}
use Rattle.std.proofs.lemmas.List.{length_push, map-append, take_all, take_more}
use Rattle.std.proofs.lemmas.List.Elements.{All-push}
use Rattle.std.proofs.lemmas.Option.{get_or_from_slice_get, slice_get_within}
use Rattle.heap_dump.specs.Listing.{AreLabelled, ids_of, label_of, labels_of}
use Rattle.heap_dump.specs.declared.listing.ListedObject.{ListedObject}
use Rattle.heap_dump.specs.declared.listing.object_labels.Label.{Label}
use Rattle.heap_dump.proofs.Lemmas.Increasing.{increasing_push}

module _ (labels : List Label) where
  -- before the first object
  pub labelled_none : AreLabelled labels 0 []
  labelled_none = record { labelled = refl; ascend = λ k l. absurd (omega arith); highest = λ k d l. absurd (omega arith) }

  -- the first labels, with one more
  first_labels : (objects : List ListedObject) (object : ListedObject) → labels_of objects ≡ take (length objects) labels
      → slice_get labels (length objects) ≡ Some (label_of object) → labels_of (objects ++ object ∷ []) ≡ take (length (objects ++ object ∷ [])) labels
  first_labels objects object before next =
      let label = label_of object in
      let within = slice_get_within labels (length objects) label next in
      map-append label_of objects (object ∷ [])
      ∙ ap₂ (λ xs x. xs ++ x ∷ []) before (sym (get_or_from_slice_get labels (length objects) label label next))
      ∙ sym (take_more labels (length objects) label within)
      ∙ ap (λ n. take n labels) (sym (length_push objects object))

  -- one object more, with the next label
  pub labelled_more : (last : ℕ) (objects : List ListedObject) (object : ListedObject) → AreLabelled labels last objects
      → slice_get labels (length objects) ≡ Some (label_of object) → last < object.id → AreLabelled labels object.id (objects ++ object ∷ [])
  labelled_more last objects object h next above =
      let more : ids_of (objects ++ object ∷ []) ≡ ids_of objects ++ object.id ∷ [] = map-append (λ o. o.id) objects (object ∷ []) in
      record {
        labelled = first_labels objects object h.labelled next;
        ascend = subst (λ xs. IsStrictlyIncreasing xs) (sym more) (increasing_push (ids_of objects) object.id h.ascend (λ k d l. let below = h.highest k d l in omega (arith, below, above)));
        highest = subst (λ xs. All (λ id. id ≤ object.id) xs) (sym more)
            (All-push (λ id. id ≤ object.id) (ids_of objects) object.id (λ k d l. let below = h.highest k d l in omega (arith, below, above)) (omega arith));
      }

  -- all labels
  pub labelled_all : (last : ℕ) (objects : List ListedObject) → AreLabelled labels last objects → length objects ≡ length labels → labels_of objects ≡ labels
  labelled_all last objects h same = h.labelled ∙ take_all (length objects) labels (omega (arith, same))
