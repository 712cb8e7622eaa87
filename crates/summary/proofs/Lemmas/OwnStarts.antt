-- Below a region's own start its live words belong to objects of earlier regions, and from it on to its own objects.
use Rattle.std.proofs.Common.{◌≡◌, ℕ, ◌+◌, ◌-◌, ◌≤◌, ◌<◌, inl, inr, true, false, ◌&&◌, length, get_or, refl, sym, ◌∙◌, ap, subst, arith, ltb, eqb, min, List, [], ◌∷◌, ◌++◌}
use Rattle.std.proofs.lemmas.Bool.{false≢true, cases_lt, lt-ltb, ltb-true, eq-eqb, eqb-true, and_parts, and_from, false_from_ne_true}
use Rattle.std.proofs.lemmas.List.{get_or_default, get_or_append_left}
use Rattle.std.proofs.Math.Seq.{get_or-append_seam}
use Rattle.std.proofs.lemmas.List.Folds.{list_any_at, Any-from_list_any}
use Rattle.std.specs.Prelude.{count_by}
use Rattle.std.specs.List.{range_with_len}
use Rattle.object_heap.specs.HeapImage.{HeapImage, HasLiveList, heap_words, region_words, start_of, size_at, end_of, is_word_of, is_live_word, live_words}
use Rattle.summary.proofs.Lemmas.Spans.{is_in_parts, is_in_inside}
use Rattle.mark_bitmap.specs.Marks.{is_begin}
use Rattle.summary.specs.RegionData.{partial_words, own_words}
use Rattle.summary.specs.RegionPlaces.{IsOwnStart}
use Rattle.summary.proofs.Lemmas.Destinations.{count_by-none, count_by-same, count_by-parts}
use Rattle.summary.proofs.Lemmas.Readers.{same_Bool}
use Rattle.summary.proofs.Lemmas.Regions.{begun_left, data-live_words}
use Rattle.summary.proofs.Lemmas.Words.{owner, is_live, ends_before, live_words-add}

module _ (image : HeapImage) (sound : HasLiveList image) where
  abbrev place : ℕ → ℕ
  place i = get_or image.live i 0

  pub begins_at : (i : ℕ) → i < length image.live → is_begin image (place i) ≡ true
  begins_at i l = list_any_at (λ b. eqb b (place i)) image.live i 0 l (eq-eqb (place i) (place i) refl)

  -- the object that begins there
  pub begun_at : (a : ℕ) → is_begin image a ≡ true → (i : ℕ) × (i < length image.live) × (place i ≡ a)
  begun_at a h =
      let on = Any-from_list_any (λ b. eqb b a) image.live h in
      let l : on.0 < length image.live = on.2 in
      (on.0, l, get_or_default image.live on.0 0 on.1 l ∙ on.3 ∙ eqb-true on.1 a on.4)

  -- the object that begins before an address and has this word
  left_owner : (s q : ℕ) → begun_left image s q ≡ true → (i : ℕ) × (i < length image.live) × (place i < s) × (place i ≤ q) × (q < end_of image (place i))
  left_owner s q h =
      let on = Any-from_list_any (λ c. ltb c s && is_word_of image c q) image.live h in
      let x : ℕ = on.1 in
      let l : on.0 < length image.live = on.2 in
      let is : place on.0 ≡ x = get_or_default image.live on.0 0 x l ∙ on.3 in
      let both = and_parts (ltb x s) (is_word_of image x q) on.4 in
      let parts = is_in_parts x (size_at image x) q both.1 in
      (on.0, l, rw is (ltb-true x s both.0), rw is parts.0, rw is parts.1)

  -- if no object begins from s up to a word, the word is live if it belongs to an object that begins before s
  left_is_live : (s q : ℕ) → ((k : ℕ) → s ≤ k → k ≤ q → is_begin image k ≡ false) → begun_left image s q ≡ is_live_word image q
  left_is_live s q none = same_Bool (begun_left image s q) (is_live_word image q)
      (λ h. let o = left_owner s q h in is_live image sound o.0 q o.1 o.3 o.4)
      (λ h.
      let o = owner image sound q h in
      let i : ℕ = o.0 in
      let l : i < length image.live = o.1 in
      let low : place i ≤ q = o.2 in
      elim (cases_lt (place i) s) [
        | inl less ↦ list_any_at (λ c. ltb c s && is_word_of image c q) image.live i 0 l (and_from (ltb (place i) s) (is_word_of image (place i) q) (lt-ltb (place i) s less) (is_in_inside (place i) (size_at image (place i)) q low o.3))
        | inr more ↦ absurd (false≢true (sym (none (place i) more low) ∙ begins_at i l))
      ])

  -- an object that begins before another has no words at or after the other's start
  left_ends : (s a q : ℕ) → s ≤ a → a ≤ q → is_begin image a ≡ true → begun_left image s q ≡ true → ⊥
  left_ends s a q l m begins h =
      let o = left_owner s q h in
      let on = begun_at a begins in
      let is : place on.0 ≡ a = on.2 in
      let less : place o.0 < s = o.2 in
      let over : q < end_of image (place o.0) = o.4 in
      let end = ends_before image sound o.0 on.0 o.1 on.1 (omega arith) in
      omega arith

  pub own_start-partial : (r a : ℕ) → IsOwnStart image r a → live_words image (start_of image r) a ≡ partial_words image r
  own_start-partial r a own =
      let s : ℕ = start_of image r in
      let n : ℕ = region_words image in
      let m : ℕ = a - s in
      let low = own.behind in
      let high = own.inside in
      let all : n ≡ m + (n - m) = omega arith in
      let cut = count_by-parts (begun_left image s) s m (n - m) in
      let front = count_by-same (begun_left image s) (is_live_word image) s m (λ q l h. left_is_live s q (λ k f t. own.before k f (omega arith))) in
      let rest = count_by-none (begun_left image s) (s + m) (n - m) (λ q l h. false_from_ne_true (begun_left image s q) (left_ends s a q low (omega arith) (own.begins (omega arith)))) in
      let whole : partial_words image r ≡ count_by (begun_left image s) (range_with_len s (m + (n - m))) = ap (λ k. count_by (begun_left image s) (range_with_len s k)) all in
      omega arith

  pub own_start-own : (r a : ℕ) → IsOwnStart image r a → live_words image a (start_of image r + region_words image) ≡ own_words image r
  own_start-own r a own =
      let partial = own_start-partial r a own in
      let cut = live_words-add image (start_of image r) a (start_of image r + region_words image) own.behind own.inside in
      let both = data-live_words image sound r in
      omega arith

  -- the first begin from the region's start on, cut at the region's end
  pub own_start-cut : (r b : ℕ) → start_of image r + region_words image ≤ heap_words image → start_of image r ≤ b → ((k : ℕ) → start_of image r ≤ k → k < b → is_begin image k ≡ false) → (b < heap_words image → is_begin image b ≡ true)
      → IsOwnStart image r (min b (start_of image r + region_words image))
  own_start-cut r b within low none begins =
      let end : ℕ = start_of image r + region_words image in
      elim (cases_lt b end) [
        | inl less ↦
            let e : b ≡ min b end = omega arith in
            subst (IsOwnStart image r) e (record { behind = low; inside = omega arith; before = none; begins = λ _. begins (omega arith) })
        | inr more ↦
            let e : end ≡ min b end = omega arith in
            subst (IsOwnStart image r) e (record { behind = omega arith; inside = omega arith; before = λ k l m. none k l (omega arith); begins = λ l. let no : ⊥ = omega arith in absurd no })
      ]

-- a list of places and one more
pub each_more : (P : ℕ → ℕ → Type 0) (items : List ℕ) (n x : ℕ) → length items ≡ n → ((i : ℕ) → i < n → P i (get_or items i 0)) → P n x → (i : ℕ) → i < n + 1 → P i (get_or (items ++ x ∷ []) i 0)
each_more P items n x long each last i l = elim (cases_lt i n) [
  | inl less ↦ subst (P i) (sym (get_or_append_left items (x ∷ []) 0 i (omega arith))) (each i less)
  | inr more ↦
      let e : n ≡ i = omega arith in
      let at : length items ≡ i = long ∙ e in
      subst (P i) (sym (ap (λ k. get_or (items ++ x ∷ []) k 0) (sym at) ∙ get_or-append_seam items x [] 0)) (subst (λ k. P k x) e last)
]
