-- A live list is closed: what is reached from roots that lead to live objects is live.
use Rattle.std.proofs.Common.{◌≡◌, ℕ, zero, suc, ◌+◌, ◌≤◌, ◌<◌, inl, inr, Bool, true, false, not, ◌||◌, List, [], ◌∷◌, length, get_or, refl, sym, ◌∙◌, ap, subst, arith, eqb, leb, ltb}
use Rattle.std.proofs.lemmas.Bool.{false≢true, cases_eq, cond-true, cond-false, eq-eqb, eqb-true, ne_eqb, le-ltb, lt-leb, or_left, or_right, or_cases, or_from, and_from, and_parts, not-true}
use Rattle.std.proofs.lemmas.List.{get_or_default, get_or-map, length-map}
use Rattle.std.proofs.lemmas.List.Folds.{list_any_at, Any-from_list_any}
use Rattle.std.proofs.lemmas.List.Elements.{All-from_get_or, All-tail}
use Rattle.std.proofs.lemmas.List.FromFn.{length-range_with_len, get_or-range_with_len}
use Rattle.std.specs.Prelude.{All, filter, map}
use Rattle.std.specs.List.{list_any, range_with_len}
use Rattle.object_heap.specs.HeapImage.{HeapImage, HasLiveList, HasSoundHeader, heap_words, kind_at, size_at, references_at, reference_at, end_of, is_null_or_live, is_unsound, leads_to, refers_to, reachable}
use Rattle.object_heap.specs.Reachable.{is_listed, IsClosed}
use Rattle.object_heap.proofs.Lemmas.Apart.{Apart, live_apart}
use Rattle.object_heap.proofs.Lemmas.Listed.{filter_same, listed_one}
use Rattle.object_heap.proofs.Lemmas.Reaches.{reachable-IsClosed, reachable-least, reachable-ascending}

pub listed_at : (xs : List ℕ) (i : ℕ) → i < length xs → is_listed xs (get_or xs i 0) ≡ true
listed_at xs i l = list_any_at (λ b. eqb (get_or xs i 0) b) xs i 0 l (eq-eqb (get_or xs i 0) (get_or xs i 0) refl)

-- a listed address has a place
pub place_of : (xs : List ℕ) (a : ℕ) → is_listed xs a ≡ true → (i : ℕ) × (i < length xs) × (get_or xs i 0 ≡ a)
place_of xs a h =
    let at = Any-from_list_any (λ b. eqb a b) xs h in
    (at.0, at.2, get_or_default xs at.0 0 at.1 at.2 ∙ at.3 ∙ sym (eqb-true a at.1 at.4))

both_ways : (x y : Bool) → (x ≡ true → y ≡ true) → (y ≡ true → x ≡ true) → x ≡ y
both_ways true y h k = sym (h refl)
both_ways false true h k = k refl
both_ways false false h k = refl

-- spans of one word or more, by the question whether an address is the first of one
below_none : (size : ℕ → ℕ) (low : ℕ) (xs : List ℕ) → Apart size low xs → (b : ℕ) → b < low → is_listed xs b ≡ false
below_none size low [] h b l = refl
below_none size low (x ∷ xs) h b l =
    let from : low ≤ x = h.0 in
    or_from (eqb b x) (is_listed xs b) (ne_eqb b x (λ e. let no : ⊥ = omega arith in no)) (below_none size (x + size x) xs h.1 b (omega arith))

apart_ascending : (size : ℕ → ℕ) (low n from : ℕ) (xs : List ℕ) → Apart size low xs → All (λ a. 0 < size a) xs → All (λ a. a < from + n) xs → from ≤ low
    → xs ≡ filter (is_listed xs) (range_with_len from n)
apart_ascending size low zero from [] h some below l = refl
apart_ascending size low zero from (x ∷ xs) h some below l =
    let up : low ≤ x = h.0 in
    let down : x < from + 0 = below 0 0 (omega arith) in
    let no : ⊥ = omega arith in
    absurd no
apart_ascending size low (suc n) from [] h some below l = apart_ascending size (from + 1) n (from + 1) [] tt some (λ k d m. let no : ⊥ = omega arith in absurd no) (omega arith)
apart_ascending size low (suc n) from (x ∷ xs) h some below l =
    let up : low ≤ x = h.0 in
    let one : 0 < size x = some 0 0 (omega arith) in
    elim (cases_eq from x) [
      | inl here ↦
          let rest : xs ≡ filter (is_listed xs) (range_with_len (from + 1) n) = apart_ascending size (x + size x) n (from + 1) xs h.1 (All-tail (λ a. 0 < size a) x xs some) (λ k d m. let b : get_or xs k d < from + suc n = All-tail (λ a. a < from + suc n) x xs below k d m in omega arith) (omega arith) in
          let agree : filter (is_listed xs) (range_with_len (from + 1) n) ≡ filter (is_listed (x ∷ xs)) (range_with_len (from + 1) n) =
          filter_same (is_listed xs) (is_listed (x ∷ xs)) (from + 1) n (λ a m k. sym (or_false (eqb a x) (is_listed xs a) (ne_eqb a x (λ e. let no : ⊥ = omega arith in no)))) in
          let passes : is_listed (x ∷ xs) from ≡ true = or_left (eqb from x) (is_listed xs from) (eq-eqb from x here) in
          ap (λ ys. x ∷ ys) (rest ∙ agree)
          ∙ ap (λ c. c ∷ filter (is_listed (x ∷ xs)) (range_with_len (from + 1) n)) (sym here)
          ∙ sym (cond-true (is_listed (x ∷ xs) from) (from ∷ filter (is_listed (x ∷ xs)) (range_with_len (from + 1) n)) (filter (is_listed (x ∷ xs)) (range_with_len (from + 1) n)) passes)
      | inr other ↦
          let lower : from < x = omega arith in
          let fails : is_listed (x ∷ xs) from ≡ false = below_none size x (x ∷ xs) (le_self x, h.1) from lower in
          apart_ascending size x n (from + 1) (x ∷ xs) (le_self x, h.1) some (λ k d m. let b : get_or (x ∷ xs) k d < from + suc n = below k d m in omega arith) (omega arith)
          ∙ sym (cond-false (is_listed (x ∷ xs) from) (from ∷ filter (is_listed (x ∷ xs)) (range_with_len (from + 1) n)) (filter (is_listed (x ∷ xs)) (range_with_len (from + 1) n)) fails)
    ]
  where
    or_false : (b c : Bool) → b ≡ false → (b || c) ≡ c
    or_false true c e = absurd (false≢true (sym e))
    or_false false c e = refl

    le_self : (n : ℕ) → n ≤ n
    le_self n = omega arith

module _ (image : HeapImage) (sound : HasLiveList image) where
  pub live_sound : (a : ℕ) → is_listed image.live a ≡ true → HasSoundHeader image a
  live_sound a h = let at = place_of image.live a h in subst (HasSoundHeader image) at.2 (sound.sound at.0 0 at.1)

  pub live_below : (a : ℕ) → is_listed image.live a ≡ true → a < heap_words image
  live_below a h = let s = live_sound a h in let some = s.header in let inside = s.inside in omega arith

  -- the live list by the question whether an address is live
  pub live_ascending : image.live ≡ filter (is_listed image.live) (range_with_len 0 (heap_words image))
  live_ascending = apart_ascending (size_at image) 0 (heap_words image) 0 image.live (live_apart image sound)
      (All-from_get_or (λ a. 0 < size_at image a) image.live 0 (λ i l. (sound.sound i 0 l).header))
      (All-from_get_or (λ a. a < 0 + heap_words image) image.live 0 (λ i l. let inside = live_below (get_or image.live i 0) (listed_at image.live i l) in omega arith))
      (omega arith)

  -- a sound header fails no test
  pub not_unsound : (a : ℕ) → HasSoundHeader image a → is_unsound image a ≡ false
  not_unsound a h =
      let one : not (eqb (kind_at image a) 1) ≡ false = ap not (eq-eqb (kind_at image a) 1 h.object) in
      let two : eqb (size_at image a) 0 ≡ false = ne_eqb (size_at image a) 0 (λ z. let s = h.header in let no : ⊥ = omega arith in no) in
      let three : leb (size_at image a) (references_at image a) ≡ false = lt-leb (size_at image a) (references_at image a) h.references in
      let four : ltb (heap_words image) (end_of image a) ≡ false = le-ltb (heap_words image) (end_of image a) h.inside in
      rw (one, two, three, four) refl

  -- a reference that leads somewhere leads to a live object
  pub leads_to_live : (w b : ℕ) → is_null_or_live image w ≡ true → leads_to w b ≡ true → is_listed image.live b ≡ true
  leads_to_live w b h leads =
      let is : w ≡ b + 1 = eqb-true w (b + 1) leads in
      elim (or_cases (eqb w 0) (list_any (λ a. eqb w (a + 1)) image.live) h) [
        | inl null ↦ let z = eqb-true w 0 null in let no : ⊥ = omega arith in absurd no
        | inr found ↦
            let one = listed_one (λ a. eqb w (a + 1)) image.live found in
            let e : w ≡ one.0 + 1 = eqb-true w (one.0 + 1) one.2 in
            let same : one.0 ≡ b = omega arith in
            subst (λ c. is_listed image.live c ≡ true) same one.1
      ]

  -- the field by which an object refers to another
  pub field_of : (a b : ℕ) → refers_to image a b ≡ true → (is_unsound image a ≡ false) × ((f : ℕ) × (f < references_at image a) × (reference_at image a f ≡ b + 1))
  field_of a b h =
      let n : ℕ = references_at image a in
      let parts = and_parts (not (is_unsound image a)) (list_any (λ f. leads_to (reference_at image a f) b) (range_with_len 0 n)) h in
      let at = Any-from_list_any (λ f. leads_to (reference_at image a f) b) (range_with_len 0 n) parts.1 in
      let long = length-range_with_len 0 n in
      let inside : at.0 < n = omega arith in
      let is : at.0 ≡ at.1 = sym (get_or-range_with_len 0 n at.0 at.1 inside ∙ zero_plus at.0) ∙ at.3 in
      (not-true (is_unsound image a) parts.0, (at.1, omega arith, eqb-true (reference_at image a at.1) (b + 1) at.4))
    where
      zero_plus : (k : ℕ) → 0 + k ≡ k
      zero_plus k = omega arith

  -- an object refers by each of its fields
  pub refers_by : (a b f : ℕ) → is_unsound image a ≡ false → f < references_at image a → reference_at image a f ≡ b + 1 → refers_to image a b ≡ true
  refers_by a b f ok l e =
      let n : ℕ = references_at image a in
      let long = length-range_with_len 0 n in
      let field : get_or (range_with_len 0 n) f 0 ≡ f = get_or-range_with_len 0 n f 0 l ∙ omega arith in
      and_from (not (is_unsound image a)) (list_any (λ k. leads_to (reference_at image a k) b) (range_with_len 0 n)) (ap not ok)
      (list_any_at (λ k. leads_to (reference_at image a k) b) (range_with_len 0 n) f 0 (omega arith) (ap (λ k. leads_to (reference_at image a k) b) field ∙ eq-eqb (reference_at image a f) (b + 1) e))

  pub live_closed : (roots : List ℕ) → All (λ w. is_null_or_live image w ≡ true) roots → IsClosed image roots (is_listed image.live)
  live_closed roots lead = record {
    from_roots = λ b l h.
        let at = Any-from_list_any (λ w. leads_to w b) roots h in
        leads_to_live at.1 b (subst (λ w. is_null_or_live image w ≡ true) at.3 (lead at.0 at.1 at.2)) at.4;
    from_objects = λ a b h refers l.
        let place = place_of image.live a h in
        let field = field_of a b refers in
        let null_or_live : is_null_or_live image (reference_at image a field.1.0) ≡ true =
        subst (λ c. (f : ℕ) → f < references_at image c → is_null_or_live image (reference_at image c f) ≡ true) place.2 (sound.references place.0 0 place.1) field.1.0 field.1.1 in
        leads_to_live (reference_at image a field.1.0) b null_or_live (eq-eqb (reference_at image a field.1.0) (b + 1) field.1.2);
  }

  -- Roots that lead to live objects or nowhere, from which each live object is reached, reach the live list.
  pub live_is_reachable : (roots : List ℕ) → All (λ w. is_null_or_live image w ≡ true) roots
      → ((a : ℕ) → is_listed image.live a ≡ true → is_listed (reachable image roots) a ≡ true) → image.live ≡ reachable image roots
  live_is_reachable roots lead reached =
      live_ascending
      ∙ filter_same (is_listed image.live) (is_listed (reachable image roots)) 0 (heap_words image) (λ a l m.
      both_ways (is_listed image.live a) (is_listed (reachable image roots) a) (reached a) (reachable-least image roots (is_listed image.live) (live_closed roots lead) a))
      ∙ sym (reachable-ascending image roots)

  -- a root to each live object
  pub live_roots : image.live ≡ reachable image (map (λ a. a + 1) image.live)
  live_roots = live_is_reachable (map (λ a. a + 1) image.live) lead (λ a h.
      let place = place_of image.live a h in
      let long = length-map image.live (λ a. a + 1) in
      let at : get_or (map (λ a. a + 1) image.live) place.0 0 ≡ a + 1 = get_or-map (λ a. a + 1) image.live place.0 0 0 place.1 ∙ ap (λ c. c + 1) place.2 in
      (reachable-IsClosed image (map (λ a. a + 1) image.live)).from_roots a (live_below a h)
      (list_any_at (λ w. leads_to w a) (map (λ a. a + 1) image.live) place.0 0 (omega arith) (eq-eqb (get_or (map (λ a. a + 1) image.live) place.0 0) (a + 1) at)))
    where
      lead : All (λ w. is_null_or_live image w ≡ true) (map (λ a. a + 1) image.live)
      lead = All-from_get_or (λ w. is_null_or_live image w ≡ true) (map (λ a. a + 1) image.live) 0 (λ i l.
          let long = length-map image.live (λ a. a + 1) in
          let m : i < length image.live = omega arith in
          let at : get_or (map (λ a. a + 1) image.live) i 0 ≡ get_or image.live i 0 + 1 = get_or-map (λ a. a + 1) image.live i 0 0 m in
          let w : ℕ = get_or (map (λ a. a + 1) image.live) i 0 in
          or_right (eqb w 0) (list_any (λ a. eqb w (a + 1)) image.live) (list_any_at (λ a. eqb w (a + 1)) image.live i 0 m (eq-eqb w (get_or image.live i 0 + 1) at)))
