-- The live objects of a valid image, and their bits.
use Rattle.std.proofs.Common.{◌≡◌, ℕ, zero, suc, ◌+◌, ◌-◌, ◌≤◌, ◌<◌, inl, inr, Bool, true, eqb, length, get_or, sym, ◌∙◌, ap, subst, arith}
use Rattle.std.specs.List.{list_any}
use Rattle.std.proofs.lemmas.Bool.{cases_order, eq-eqb, eqb-true, false_from_ne_true, true≢false}
use Rattle.std.proofs.lemmas.List.Folds.{list_any_at, Any-from_list_any}
use Rattle.std.proofs.lemmas.Grind.{get_or_default_zero}
use Rattle.object_heap.specs.HeapImage.{HeapImage, IsValid, HasSoundHeader, size_at, end_of}
use Rattle.object_heap.specs.Bits.{IsFirstFrom}
use Rattle.mark_bitmap.specs.Marks.{is_begin, is_end}

-- two first addresses of one test are one
pub IsFirstFrom-unique : (p : ℕ → Bool) (from a b : ℕ) → IsFirstFrom p from a → IsFirstFrom p from b → a ≡ b
IsFirstFrom-unique p from a b h k = elim (cases_order a b) [
  | inl same ↦ same
  | inr (inl before) ↦ absurd (true≢false (sym h.passes ∙ k.least a h.behind before))
  | inr (inr behind) ↦ absurd (true≢false (sym k.passes ∙ h.least b k.behind behind))
]

pub IsFirstFrom-same : (p q : ℕ → Bool) (from a : ℕ) → ((k : ℕ) → p k ≡ q k) → IsFirstFrom p from a → IsFirstFrom q from a
IsFirstFrom-same p q from a e h = record {
  behind = h.behind;
  passes = sym (e a) ∙ h.passes;
  least = λ k f l. sym (e k) ∙ h.least k f l;
}

module _ (image : HeapImage) (valid : IsValid image) where
  pub sound_at : (i : ℕ) → i < length image.live → HasSoundHeader image (get_or image.live i 0)
  sound_at i h = valid.live_list.sound i 0 h

  -- the objects stand in order, apart from one another
  apart_by : (i d : ℕ) → i + 1 + d < length image.live → end_of image (get_or image.live i 0) ≤ get_or image.live (i + 1 + d) 0
  apart_by i zero h =
      let e : i + 1 + 0 ≡ i + 1 = omega arith in
      subst (λ n. end_of image (get_or image.live i 0) ≤ get_or image.live n 0) (sym e) (valid.live_list.apart i 0 (omega arith))
  apart_by i (suc d) h =
      let e : i + 1 + suc d ≡ i + 1 + d + 1 = omega arith in
      let before : end_of image (get_or image.live i 0) ≤ get_or image.live (i + 1 + d) 0 = apart_by i d (omega arith) in
      let next : end_of image (get_or image.live (i + 1 + d) 0) ≤ get_or image.live (i + 1 + d + 1) 0 = valid.live_list.apart (i + 1 + d) 0 (omega arith) in
      subst (λ n. end_of image (get_or image.live i 0) ≤ get_or image.live n 0) (sym e) (omega arith)

  pub apart : (i j : ℕ) → i < j → j < length image.live → end_of image (get_or image.live i 0) ≤ get_or image.live j 0
  apart i j h l =
      let e : i + 1 + (j - (i + 1)) ≡ j = omega arith in
      subst (λ n. end_of image (get_or image.live i 0) ≤ get_or image.live n 0) e (apart_by i (j - (i + 1)) (omega arith))

  -- an address that passes a test of the list has a place in it
  pub place_of : (p : ℕ → Bool) → list_any p image.live ≡ true → (i : ℕ) × (i < length image.live) × (p (get_or image.live i 0) ≡ true)
  place_of p h =
      let any = Any-from_list_any p image.live h in
      let i : ℕ = any.0 in
      let a : ℕ = any.1 in
      let inside : i < length image.live = any.2 in
      let is : get_or image.live i a ≡ a = any.3 in
      let at : a ≡ get_or image.live i 0 = sym is ∙ get_or_default_zero image.live i a inside in
      (i, inside, subst (λ n. p n ≡ true) at any.4)

  -- an object has at least its header
  pub begin-some : (a : ℕ) → is_begin image a ≡ true → 0 < size_at image a
  begin-some a h =
      let here = place_of (λ b. eqb b a) h in
      subst (λ n. 0 < size_at image n) (eqb-true (get_or image.live here.0 0) a here.2) (sound_at here.0 here.1).header

  -- the first end from the begin of an object on is its own
  pub end-first : (a : ℕ) → is_begin image a ≡ true → IsFirstFrom (is_end image) a (end_of image a - 1)
  end-first a h =
      let here = place_of (λ b. eqb b a) h in
      let i : ℕ = here.0 in
      let inside : i < length image.live = here.1 in
      let is : get_or image.live i 0 ≡ a = eqb-true (get_or image.live i 0) a here.2 in
      let some : 0 < size_at image (get_or image.live i 0) = (sound_at i inside).header in
      let some' : 0 < size_at image a = subst (λ n. 0 < size_at image n) is some in
      let last : end_of image (get_or image.live i 0) ≡ end_of image a - 1 + 1 = ap (end_of image) is ∙ omega arith in
      record {
        behind = omega arith;
        passes = list_any_at (λ b. eqb (end_of image b) (end_of image a - 1 + 1)) image.live i 0 inside (eq-eqb (end_of image (get_or image.live i 0)) (end_of image a - 1 + 1) last);
        least = λ k f l. false_from_ne_true (is_end image k) (λ t. no_other i inside is k f l t);
      }
    where
      no_other : (i : ℕ) → i < length image.live → get_or image.live i 0 ≡ a → (k : ℕ) → a ≤ k → k < end_of image a - 1 → is_end image k ≡ true → ⊥
      no_other i inside is k f l t =
          let there = place_of (λ b. eqb (end_of image b) (k + 1)) t in
          let j : ℕ = there.0 in
          let inside' : j < length image.live = there.1 in
          let ends : end_of image (get_or image.live j 0) ≡ k + 1 = eqb-true (end_of image (get_or image.live j 0)) (k + 1) there.2 in
          let own : end_of image (get_or image.live i 0) ≡ end_of image a = ap (end_of image) is in
          let some : 0 < size_at image (get_or image.live j 0) = (sound_at j inside').header in
          elim (cases_order j i) [
            | inl same ↦ let e : end_of image (get_or image.live j 0) ≡ end_of image (get_or image.live i 0) = ap (λ n. end_of image (get_or image.live n 0)) same in omega arith
            | inr (inl before) ↦ let e : end_of image (get_or image.live j 0) ≤ get_or image.live i 0 = apart j i before inside in omega arith
            | inr (inr behind) ↦ let e : end_of image (get_or image.live i 0) ≤ get_or image.live j 0 = apart i j behind inside' in omega arith
          ]
