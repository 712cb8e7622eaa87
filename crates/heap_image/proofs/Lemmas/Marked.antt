-- What was marked, as a live list.
use Rattle.std.proofs.Common.{◌≡◌, ℕ, ◌*◌, ◌≤◌, ◌<◌, inl, inr, false, List, ◌∷◌, length, sym, ◌∙◌, ap, subst, arith, ltb, Option, Some, None}
use Rattle.std.proofs.lemmas.Bool.{cases_lt}
use Rattle.std.proofs.lemmas.List.Elements.{All-from_get_or}
use Rattle.std.specs.Prelude.{All, filter, find, option_map, slice_index}
use Rattle.std.specs.List.{range_with_len, list_any}
use Rattle.image_streams.specs.declared.fault.Fault.TheVariants.{LiveOrder, Root}
use Rattle.object_heap.specs.declared.version.Version.TheVariants.{Two}
use Rattle.object_heap.specs.HeapImage.{HeapImage, heap_words, with_live, reachable}
use Rattle.heap_image.specs.ImageText.{object_faults, first_object_fault, first_some, live_list_faults, from_tail}
use Rattle.object_heap.specs.ObjectFaults.{misplaced_root, misplaced_index}
use Rattle.object_heap.specs.Bits.{MarkBegins, has, addresses_of}
use Rattle.object_heap.specs.Reachable.{is_listed}
use Rattle.heap_marking.specs.Marking.{AreReached}
use Rattle.heap_image.proofs.Lemmas.References.{either_way, none_above}
use Rattle.heap_image.proofs.Lemmas.Listed.{filter_same}
use Rattle.heap_image.proofs.Lemmas.InOrder.{filter_below, reachable-in_order}
use Rattle.heap_image.proofs.Lemmas.TextLaws.{reachable-words}

-- what is listed of the marks of a heap, by the law of marks that are listed
pub listed_below : ((words : List ℕ) (size : ℕ) → size ≤ 64 * length words → ((a : ℕ) → size ≤ a → has words a ≡ false) → addresses_of words ≡ filter (has words) (range_with_len 0 size))
    → (image : HeapImage) (roots bits live : List ℕ) (words : ℕ) → words ≡ heap_words image → AreReached image roots bits → live ≡ addresses_of bits → live ≡ filter (has bits) (range_with_len 0 words)
listed_below listing image roots bits live words are reached is = is ∙ listing bits words (let room = reached.room in omega arith) (λ a l. reached.outside a (omega arith))

module _ (image : HeapImage) (roots bits live : List ℕ) (words : ℕ) (are : words ≡ heap_words image) (reached : AreReached image roots bits) (is : live ≡ filter (has bits) (range_with_len 0 words)) where
  pub live_is : reachable image roots ≡ filter (is_listed (reachable image roots)) (range_with_len 0 (heap_words image)) → live ≡ reachable image roots
  live_is ascending =
      is
      ∙ ap (λ n. filter (has bits) (range_with_len 0 n)) are
      ∙ filter_same (has bits) (is_listed (reachable image roots)) 0 (heap_words image) (λ a l m. reached.marked a (omega arith))
      ∙ sym ascending

  pub live_inside : All (λ a. a < words) live
  live_inside = subst (λ xs. All (λ a. a < words) xs) (sym is) (All-from_get_or (λ a. a < words) (filter (has bits) (range_with_len 0 words)) 0 (λ i l. let below = filter_below (has bits) 0 words i l in omega arith))

  pub live_begins : reachable image roots ≡ filter (is_listed (reachable image roots)) (range_with_len 0 (heap_words image)) → MarkBegins live words bits
  live_begins ascending = record {
    room = let room = reached.room in omega arith;
    marked = λ a. elim (cases_lt a words) [
      | inl low ↦ reached.marked a (omega arith) ∙ ap (λ xs. is_listed xs a) (sym (live_is ascending)) ∙ (λ i. list_any (λ b. either_way a b i) live)
      | inr high ↦ reached.outside a (omega arith) ∙ sym (none_above words a live live_inside high)
    ];
  }

module _ (heap : HeapImage) (roots live : List ℕ) (words : ℕ) (are : words ≡ heap_words heap) where
  -- the image of these roots
  abbrev image : HeapImage
  image = from_tail Two (with_live heap roots)

  misplaced_is : find (λ i. ltb words (slice_index roots i)) (range_with_len 0 (length roots)) ≡ misplaced_root image
  misplaced_is = ap (λ n. find (λ i. ltb n (slice_index roots i)) (range_with_len 0 (length roots))) are

  pub root_fault : (i : ℕ) (found : Option ℕ) → found ≡ find (λ i. ltb words (slice_index roots i)) (range_with_len 0 (length roots)) → found ≡ Some i
      → first_some (live_list_faults image) ≡ Some (Root i)
  root_fault i found tested some =
      ap (λ o. first_some (option_map Root o ∷ option_map LiveOrder (misplaced_index (heap_words image) image.live) ∷ object_faults image)) (sym misplaced_is ∙ sym tested ∙ some)

  pub no_root_fault : (found : Option ℕ) → found ≡ find (λ i. ltb words (slice_index roots i)) (range_with_len 0 (length roots)) → found ≡ None → misplaced_root image ≡ None
  no_root_fault found tested none = sym misplaced_is ∙ sym tested ∙ none

  -- where no root is above the number of words, only the objects can be wrong
  pub only_objects : misplaced_root image ≡ None → live ≡ reachable heap roots → first_some (live_list_faults image) ≡ first_object_fault (with_live heap live)
  only_objects none is =
      let live_here : live ≡ image.live = is ∙ sym (reachable-words heap heap.version roots None roots) in
      ap (λ o. first_some (option_map Root o ∷ option_map LiveOrder (misplaced_index (heap_words image) image.live) ∷ object_faults image)) none
      ∙ ap (λ o. first_some (option_map LiveOrder o ∷ object_faults image)) (reachable-in_order (with_live heap roots) roots)
      ∙ ap (λ xs. first_object_fault (with_live heap xs)) (sym live_here)
