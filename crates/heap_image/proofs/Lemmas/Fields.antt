-- The fields of the objects of a live list, one object after the other.
use Rattle.std.proofs.Common.{◌≡◌, ℕ, ◌+◌, ◌<◌, Bool, true, false, List, [], ◌∷◌, length, get_or, take, sym, ◌∙◌, ap, Option, Some, None}
use Rattle.std.proofs.lemmas.Bool.{true≢false}
use Rattle.std.proofs.lemmas.List.{take_more}
use Rattle.std.proofs.lemmas.List.Concat.{flat_map-append}
use Rattle.std.proofs.lemmas.List.Folds.{find-append}
use Rattle.std.proofs.lemmas.List.{append-nil}
use Rattle.std.specs.Prelude.{find, flat_map}
use Rattle.std.specs.Option.{option_or, is_some}

module _ (t : ℕ × ℕ → Bool) (fields : ℕ → List (ℕ × ℕ)) where
  -- what is found in the objects so far, or else in this one
  pub dangling_more : (live : List ℕ) (i : ℕ) → i < length live → find t (flat_map fields (take (i + 1) live)) ≡ option_or (find t (flat_map fields (take i live))) (find t (fields (get_or live i 0)))
  dangling_more live i l =
      ap (λ xs. find t (flat_map fields xs)) (take_more live i 0 l)
      ∙ ap (find t) (flat_map-append fields (take i live) (get_or live i 0 ∷ []))
      ∙ find-append t (flat_map fields (take i live)) (flat_map fields (get_or live i 0 ∷ []))
      ∙ ap (λ xs. option_or (find t (flat_map fields (take i live))) (find t xs)) (append-nil (fields (get_or live i 0)))

  -- nothing was found, and this one was searched
  pub dangling_searched : (live : List ℕ) (i : ℕ) (old new : Option (ℕ × ℕ)) → i < length live → old ≡ find t (flat_map fields (take i live)) → is_some old ≡ false → find t (fields (get_or live i 0)) ≡ new → new ≡ find t (flat_map fields (take (i + 1) live))
  dangling_searched live i None new l so_far none here = sym here ∙ ap (λ o. option_or o (find t (fields (get_or live i 0)))) so_far ∙ sym (dangling_more live i l)
  dangling_searched live i (Some x) new l so_far none here = absurd (true≢false none)

  -- something was found
  pub dangling_kept : (live : List ℕ) (i : ℕ) (old : Option (ℕ × ℕ)) → i < length live → old ≡ find t (flat_map fields (take i live)) → is_some old ≡ true → old ≡ find t (flat_map fields (take (i + 1) live))
  dangling_kept live i None l so_far some = absurd (true≢false (sym some))
  dangling_kept live i (Some x) l so_far some = ap (λ o. option_or o (find t (fields (get_or live i 0)))) so_far ∙ sym (dangling_more live i l)
