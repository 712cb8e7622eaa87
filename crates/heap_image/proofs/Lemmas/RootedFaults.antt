-- Where all headers are sound, a reference that leads to no live object leads out of the heap.
use Rattle.std.proofs.Common.{◌≡◌, ℕ, zero, suc, ◌+◌, ◌-◌, ◌<◌, inl, inr, Bool, true, false, cond, not, List, [], ◌∷◌, length, get_or, refl, sym, ◌∙◌, ap, subst, arith, eqb, Some, None}
use Rattle.std.proofs.lemmas.Bool.{cases_lt, cases_eq, eq-eqb, ne_eqb, le-ltb, lt-ltb, or_left, or_right, or_from, and_from, eqb-true}
use Rattle.std.proofs.lemmas.List.Folds.{list_any_none, list_any_at, Any-from_list_any, find-append}
use Rattle.std.proofs.lemmas.List.Elements.{All-from_get_or}
use Rattle.std.proofs.lemmas.List.FromFn.{length-range_with_len, get_or-range_with_len}
use Rattle.std.specs.Prelude.{filter, find, flat_map, map}
use Rattle.std.specs.Option.{option_or}
use Rattle.std.specs.List.{list_any, range_with_len}
use Rattle.object_heap.specs.HeapImage.{HeapImage, heap_words, references_at, reference_at, is_unsound, leads_to, refers_to, reachable}
use Rattle.object_heap.specs.ObjectFaults.{unsound_header, dangling, is_dangling, is_beyond, beyond}
use Rattle.object_heap.specs.Reachable.{is_listed, IsClosed}
use Rattle.heap_image.proofs.Lemmas.LiveListFaults.{find_None-at}
use Rattle.heap_image.proofs.Lemmas.InOrder.{filter_below}
use Rattle.heap_image.proofs.Lemmas.Listed.{any_listed}
use Rattle.heap_image.proofs.Lemmas.Reaches.{reachable_is}

piece_same : (t u : ℕ × ℕ → Bool) (x from n : ℕ) → ((f : ℕ) → f < from + n → t (x, f) ≡ u (x, f)) → find t (map (λ f. (x, f)) (range_with_len from n)) ≡ find u (map (λ f. (x, f)) (range_with_len from n))
piece_same t u x from zero h = refl
piece_same t u x from (suc n) h =
    let r : List (ℕ × ℕ) = map (λ f. (x, f)) (range_with_len (from + 1) n) in
    ap (λ b. cond b (Some (x, from)) (find t r)) (h from (omega arith))
    ∙ ap (λ o. cond (u (x, from)) (Some (x, from)) o) (piece_same t u x (from + 1) n (λ f l. h f (omega arith)))

fields_same : (t u : ℕ × ℕ → Bool) (count : ℕ → ℕ) (xs : List ℕ) → ((a f : ℕ) → is_listed xs a ≡ true → f < count a → t (a, f) ≡ u (a, f))
    → find t (flat_map (λ a. map (λ f. (a, f)) (range_with_len 0 (count a))) xs) ≡ find u (flat_map (λ a. map (λ f. (a, f)) (range_with_len 0 (count a))) xs)
fields_same t u count [] h = refl
fields_same t u count (x ∷ xs) h =
    let piece : List (ℕ × ℕ) = map (λ f. (x, f)) (range_with_len 0 (count x)) in
    let rest : List (ℕ × ℕ) = flat_map (λ a. map (λ f. (a, f)) (range_with_len 0 (count a))) xs in
    find-append t piece rest
    ∙ ap (λ o. option_or o (find t rest)) (piece_same t u x 0 (count x) (λ f l. h x f (or_left (eqb x x) (is_listed xs x) (eq-eqb x x refl)) (omega arith)))
    ∙ ap (option_or (find u piece)) (fields_same t u count xs (λ a f l m. h a f (or_right (eqb a x) (is_listed xs a) l) m))
    ∙ sym (find-append u piece rest)

module _ (image : HeapImage) (roots : List ℕ) (closed : IsClosed image roots (is_listed (reachable image roots))) where
  abbrev live : List ℕ
  live = reachable image roots

  abbrev rooted : HeapImage
  rooted = record image { live = reachable image roots; roots = Some roots }

  live_below : (i : ℕ) → i < length live → get_or live i 0 < heap_words image
  live_below i l =
      let is = reachable_is image roots in
      let at : i < length (filter is.0 (range_with_len 0 (heap_words image))) = subst (λ xs. i < length xs) is.1 l in
      subst (λ xs. get_or xs i 0 < heap_words image) (sym is.1) (let low = filter_below is.0 0 (heap_words image) i at in omega arith)

  sound_at : unsound_header rooted ≡ None → (a : ℕ) → is_listed live a ≡ true → is_unsound image a ≡ false
  sound_at none a listed =
      let at = Any-from_list_any (λ b. eqb a b) live listed in
      let here : is_unsound image (get_or live at.0 at.1) ≡ false = find_None-at (is_unsound rooted) live at.1 none at.0 at.2 in
      let is : get_or live at.0 at.1 ≡ a = at.3 ∙ sym (eqb-true a at.1 at.4) in
      subst (λ x. is_unsound image x ≡ false) is here

  tests_agree : (a f : ℕ) → is_listed live a ≡ true → is_unsound image a ≡ false → f < references_at image a → is_dangling rooted (a, f) ≡ is_beyond rooted (a, f)
  tests_agree a f listed sound l =
      let w : ℕ = reference_at image a f in
      elim (cases_lt (heap_words image) w) [
        | inl outside ↦
            let none : list_any (λ c. eqb w (c + 1)) live ≡ false = list_any_none (λ c. eqb w (c + 1)) live (All-from_get_or (λ c. eqb w (c + 1) ≡ false) live 0 (λ i m.
            let inside : get_or live i 0 < heap_words image = live_below i m in
            ne_eqb w (get_or live i 0 + 1) (λ e. let no : ⊥ = omega arith in no))) in
            ap not (or_from (eqb w 0) (list_any (λ c. eqb w (c + 1)) live) (ne_eqb w 0 (λ e. let no : ⊥ = omega arith in no)) none)
            ∙ sym (lt-ltb (heap_words image) w outside)
        | inr inside ↦ elim (cases_eq w 0) [
          | inl null ↦ ap not (or_left (eqb w 0) (list_any (λ c. eqb w (c + 1)) live) (eq-eqb w 0 null)) ∙ sym (le-ltb (heap_words image) w inside)
          | inr some ↦
              let b : ℕ = w - 1 in
              let is : w ≡ b + 1 = omega arith in
              let at : f < length (range_with_len 0 (references_at image a)) = let n = length-range_with_len 0 (references_at image a) in omega arith in
              let field : get_or (range_with_len 0 (references_at image a)) f 0 ≡ f = get_or-range_with_len 0 (references_at image a) f 0 l ∙ omega arith in
              let leads : leads_to (reference_at image a (get_or (range_with_len 0 (references_at image a)) f 0)) b ≡ true = ap (λ k. leads_to (reference_at image a k) b) field ∙ eq-eqb w (b + 1) is in
              let refers : refers_to image a b ≡ true = and_from (not (is_unsound image a)) (list_any (λ k. leads_to (reference_at image a k) b) (range_with_len 0 (references_at image a))) (ap not sound) (list_any_at (λ k. leads_to (reference_at image a k) b) (range_with_len 0 (references_at image a)) f 0 at leads) in
              let lives : is_listed live b ≡ true = closed.from_objects a b listed refers (omega arith) in
              ap not (or_right (eqb w 0) (list_any (λ c. eqb w (c + 1)) live) (any_listed (λ c. eqb w (c + 1)) live b lives (eq-eqb w (b + 1) is)))
              ∙ sym (le-ltb (heap_words image) w inside)
        ]
      ]

  -- where all headers are sound, what dangles leads out of the heap
  pub dangling_is_beyond : unsound_header rooted ≡ None → dangling rooted ≡ beyond rooted
  dangling_is_beyond none = fields_same (is_dangling rooted) (is_beyond rooted) (references_at rooted) live (λ a f listed l. tests_agree a f listed (sound_at none a listed) l)
