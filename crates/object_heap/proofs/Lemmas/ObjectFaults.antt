-- What holds of a live list with which nothing is wrong.
use Rattle.std.proofs.Common.{◌≡◌, ℕ, zero, suc, ◌+◌, ◌≤◌, ◌<◌, inl, inr, Bool, true, false, ◌||◌, List, [], ◌∷◌, length, get_or, drop, refl, sym, ◌∙◌, ap, subst, arith, ltb, leb, eqb, add-one, zero-add}
use Rattle.std.proofs.lemmas.Bool.{cases_Bool, cond-true, cond-false, ltb-false, leb-false, eqb-true, eqb-false, or_parts, not-false}
use Rattle.std.proofs.lemmas.List.Elements.{All-from_get_or}
use Rattle.std.proofs.lemmas.List.Folds.{find-append}
use Rattle.std.proofs.lemmas.List.FromFn.{length-map-range_with_len, get_or-map-range_with_len}
use Rattle.std.specs.Prelude.{find, zip, flat_map, map, Option, Some, None, option_map, not}
use Rattle.std.specs.Option.{option_or}
use Rattle.std.specs.List.{range_with_len}
use Rattle.object_heap.specs.HeapImage.{HeapImage, HasLiveList, HasSoundHeader, heap_words, end_of, size_at, references_at, kind_at, reference_at, is_null_or_live, is_unsound}
use Rattle.object_heap.specs.ObjectFaults.{unsound_header, overlapping, is_dangling, dangling}

map_None : {A B : Type 0} (f : A → B) (o : Option A) → option_map f o ≡ None → o ≡ None
map_None f None h = refl
map_None f (Some x) h = cc

some_none : {A : Type 0} {x : A} → Some x ≡ None → ⊥
some_none h = cc

find_None-at : {X : Type 0} (t : X → Bool) (xs : List X) (d : X) → find t xs ≡ None → (i : ℕ) → i < length xs → t (get_or xs i d) ≡ false
find_None-at t [] d h i l = let no : ⊥ = omega arith in absurd no
find_None-at t (x ∷ xs) d h zero l = elim (cases_Bool (t x)) [
  | inl passes ↦ absurd (some_none (sym (cond-true (t x) (Some x) (find t xs) passes) ∙ h))
  | inr fails ↦ fails
]
find_None-at t (x ∷ xs) d h (suc i) l = elim (cases_Bool (t x)) [
  | inl passes ↦ absurd (some_none (sym (cond-true (t x) (Some x) (find t xs) passes) ∙ h))
  | inr fails ↦ find_None-at t xs d (sym (cond-false (t x) (Some x) (find t xs) fails) ∙ h) i (omega arith)
]

fields_long : (x n f : ℕ) → f < n → f < length {A = ℕ × ℕ} (map (λ (g : ℕ). (x, g)) (range_with_len 0 n))
fields_long x n f k = subst (λ m. f < m) (sym (length-map-range_with_len {X = ℕ × ℕ} (λ (g : ℕ). (x, g)) 0 n)) k

-- of the fields of one object
field_fails : (t : ℕ × ℕ → Bool) (x n : ℕ) → find t (map (λ f. (x, f)) (range_with_len 0 n)) ≡ None → (f : ℕ) → f < n → t (x, f) ≡ false
field_fails t x n none f k =
    let h = find_None-at t (map (λ f. (x, f)) (range_with_len 0 n)) (x, 0) none f (fields_long x n f k) in
    ap t (sym (get_or-map-range_with_len (λ (f : ℕ). (x, f)) 0 n f f (x, 0) k (zero-add f))) ∙ h

module _ (image : HeapImage) where
  pub sound_header : (x : ℕ) → is_unsound image x ≡ false → HasSoundHeader image x
  sound_header x sound =
      let a : Bool = not (eqb (kind_at image x) 1) in
      let b : Bool = eqb (size_at image x) 0 in
      let c : Bool = leb (size_at image x) (references_at image x) in
      let d : Bool = ltb (heap_words image) (end_of image x) in
      let four = or_parts (a || b || c) d sound in
      let three = or_parts (a || b) c four.0 in
      let two = or_parts a b three.0 in
      let some : (size_at image x ≡ 0 → ⊥) = eqb-false (size_at image x) 0 two.1 in
      record {
        object = eqb-true (kind_at image x) 1 (not-false (eqb (kind_at image x) 1) two.0);
        header = omega arith;
        references = leb-false (size_at image x) (references_at image x) three.1;
        inside = ltb-false (heap_words image) (end_of image x) four.1;
      }

  sound_at : unsound_header image ≡ None → (i : ℕ) → i < length image.live → HasSoundHeader image (get_or image.live i 0)
  sound_at sound i l = sound_header (get_or image.live i 0) (find_None-at (is_unsound image) image.live 0 sound i l)

  apart_in : (size : ℕ → ℕ) (xs : List ℕ) → find (λ (p : ℕ × ℕ). ltb p.1 (p.0 + size p.0)) (zip xs (drop 1 xs)) ≡ None → (k d : ℕ) → k + 1 < length xs → get_or xs k d + size (get_or xs k d) ≤ get_or xs (k + 1) d
  apart_in size [] h k d l = let no : ⊥ = omega arith in absurd no
  apart_in size (a ∷ []) h k d l = let no : ⊥ = omega arith in absurd no
  apart_in size (a ∷ b ∷ xs) h zero d l = ltb-false b (a + size a) (find_None-at (λ (p : ℕ × ℕ). ltb p.1 (p.0 + size p.0)) (zip (a ∷ b ∷ xs) (b ∷ xs)) (0, 0) h 0 (omega arith))
  apart_in size (a ∷ b ∷ xs) h (suc k) d l =
      let fails = find_None-at (λ (p : ℕ × ℕ). ltb p.1 (p.0 + size p.0)) (zip (a ∷ b ∷ xs) (b ∷ xs)) (0, 0) h 0 (omega arith) in
      let rest = sym (cond-false (ltb b (a + size a)) (Some (a, b)) (find (λ (p : ℕ × ℕ). ltb p.1 (p.0 + size p.0)) (zip (b ∷ xs) xs)) fails) ∙ h in
      let more = apart_in size (b ∷ xs) rest k d (omega arith) in
      let e : k + 1 ≡ suc k = add-one k in
      subst (λ c. get_or (b ∷ xs) k d + size (get_or (b ∷ xs) k d) ≤ get_or (a ∷ b ∷ xs) c d) (sym (add-one (suc k))) (subst (λ c. get_or (b ∷ xs) k d + size (get_or (b ∷ xs) k d) ≤ get_or (b ∷ xs) c d) e more)

  fields_in : (t : ℕ × ℕ → Bool) (count : ℕ → ℕ) (xs : List ℕ) → find t (flat_map (λ a. map (λ f. (a, f)) (range_with_len 0 (count a))) xs) ≡ None → (i : ℕ) → i < length xs → (f : ℕ) → f < count (get_or xs i 0) → t (get_or xs i 0, f) ≡ false
  fields_in t count [] h i l f k = let no : ⊥ = omega arith in absurd no
  fields_in t count (x ∷ xs) h i l f k =
      let piece : List (ℕ × ℕ) = map (λ f. (x, f)) (range_with_len 0 (count x)) in
      let rest : List (ℕ × ℕ) = flat_map (λ a. map (λ f. (a, f)) (range_with_len 0 (count a))) xs in
      let both = option_or_None (find t piece) (find t rest) (sym (find-append t piece rest) ∙ h) in
      by_place i l k both (λ j m. fields_in t count xs both.1 j m f)
    where
      option_or_None : (o p : Option (ℕ × ℕ)) → option_or o p ≡ None → (o ≡ None) × (p ≡ None)
      option_or_None None p h = (refl, h)
      option_or_None (Some x) p h = cc

      by_place : (i : ℕ) → i < length (x ∷ xs) → f < count (get_or (x ∷ xs) i 0) → (find t (map (λ f. (x, f)) (range_with_len 0 (count x))) ≡ None) × (find t (flat_map (λ a. map (λ f. (a, f)) (range_with_len 0 (count a))) xs) ≡ None)
          → ((j : ℕ) → j < length xs → f < count (get_or xs j 0) → t (get_or xs j 0, f) ≡ false) → t (get_or (x ∷ xs) i 0, f) ≡ false
      by_place zero l k both more = field_fails t x (count x) both.0 f k
      by_place (suc i) l k both more = more i (omega arith) k

  -- each reference of a live object is null or leads to a live object
  pub references_lead : dangling image ≡ None → (i : ℕ) → i < length image.live → (f : ℕ) → f < references_at image (get_or image.live i 0)
      → is_null_or_live image (reference_at image (get_or image.live i 0) f) ≡ true
  references_lead led i l f k = not-false (is_null_or_live image (reference_at image (get_or image.live i 0) f)) (fields_in (is_dangling image) (references_at image) image.live led i l f k)

  pub faultless-HasLiveList : unsound_header image ≡ None → overlapping image ≡ None → dangling image ≡ None → HasLiveList image
  faultless-HasLiveList sound apart led = record {
    sound = All-from_get_or (HasSoundHeader image) image.live 0 (sound_at sound);
    apart = apart_in (size_at image) image.live (map_None (λ (p : ℕ × ℕ). p.1) (find (λ (p : ℕ × ℕ). ltb p.1 (end_of image p.0)) (zip image.live (drop 1 image.live))) apart);
    references = All-from_get_or (λ a. (f : ℕ) → f < references_at image a → is_null_or_live image (reference_at image a f) ≡ true) image.live 0 (references_lead led);
  }
