-- Live objects at their new addresses, and those that are deferred.
use Rattle.std.proofs.Common.{◌≡◌, ℕ, zero, suc, ◌+◌, ◌-◌, ◌/◌, ◌≤◌, ◌<◌, inl, inr, Bool, true, ◌&&◌, List, [], ◌∷◌, length, get_or, refl, sym, ◌∙◌, ap, arith, eqb}
use Rattle.std.proofs.lemmas.Bool.{cases_Bool, cases_order, cond-true, cond-false, and_parts, and_from, eqb-true, eqb-false, eq-eqb, not-true}
use Rattle.std.specs.Prelude.{find, Some, None, Option, option_map, unwrap_or}
use Rattle.object_heap.specs.HeapImage.{HeapImage, HasLiveList, region_words, region_of, size_at}
use Rattle.summary.specs.NewAddresses.{new_address}
use Rattle.summary.specs.Compaction.{is_deferred}
use Rattle.summary.specs.RegionData.{deferred}
use Rattle.summary.proofs.Lemmas.Addresses.{new_address-slid}
use Rattle.summary.proofs.Lemmas.Origin.{slid-increasing}
use Rattle.summary.proofs.Lemmas.Words.{is_live, ends_before}
use Rattle.summary.proofs.Lemmas.Regions.{region-le, region_some}

-- what `find` finds is an element that passes
pub find-Some : (t : ℕ → Bool) (xs : List ℕ) (x : ℕ) → find t xs ≡ Some x → (i : ℕ) × (i < length xs) × (get_or xs i 0 ≡ x) × (t x ≡ true)
find-Some t [] x e = absurd (none e)
  where
    none : None ≡ Some x → ⊥
    none h = cc
find-Some t (y ∷ xs) x e = elim (cases_Bool (t y)) [
  | inl passes ↦
      let same : y ≡ x = ap (λ o. unwrap_or o 0) (sym (cond-true (t y) (Some y) (find t xs) passes) ∙ e) in
      (0, omega arith, same, ap t (sym same) ∙ passes)
  | inr fails ↦
      let r = find-Some t xs x (sym (cond-false (t y) (Some y) (find t xs) fails) ∙ e) in
      let l : r.0 < length xs = r.1 in
      (suc r.0, omega arith, r.2, r.3)
]

-- it finds the one that passes
pub find-one : (t : ℕ → Bool) (xs : List ℕ) (i : ℕ) → i < length xs → t (get_or xs i 0) ≡ true → ((k : ℕ) → k < length xs → t (get_or xs k 0) ≡ true → get_or xs k 0 ≡ get_or xs i 0) → find t xs ≡ Some (get_or xs i 0)
find-one t [] i l h one = let no : ⊥ = omega arith in absurd no
find-one t (x ∷ xs) zero l h one = cond-true (t x) (Some x) (find t xs) h
find-one t (x ∷ xs) (suc i) l h one = elim (cases_Bool (t x)) [
  | inl passes ↦ cond-true (t x) (Some x) (find t xs) passes ∙ ap Some (one 0 (omega arith) passes)
  | inr fails ↦ cond-false (t x) (Some x) (find t xs) fails ∙ find-one t xs i (omega arith) h (λ k m. one (suc k) (omega arith))
]

module _ (image : HeapImage) (sound : HasLiveList image) where
  abbrev place : ℕ → ℕ
  place i = get_or image.live i 0

  abbrev R : ℕ
  R = region_words image

  -- the new words of an object end where those of a later one begin, or below
  pub new_ends_before : (i k : ℕ) → i < length image.live → k < length image.live → place i < place k → new_address image (place i) + size_at image (place i) ≤ new_address image (place k)
  new_ends_before i k l m less =
      let one = (sound.sound i 0 l).header in
      let two = (sound.sound k 0 m).header in
      let end = ends_before image sound i k l m less in
      let j : ℕ = size_at image (place i) - 1 in
      let live = is_live image sound i (place i + j) l (omega arith) (omega arith) in
      let last = new_address-slid image sound i j l (omega arith) in
      let first = new_address-slid image sound k 0 m two in
      let up = slid-increasing image (place i + j) (place k + 0) live (omega arith) in
      omega arith

  abbrev begins_in : ℕ → ℕ → Bool
  begins_in d a = is_deferred image a && eqb (new_address image a / R) d

  not_after : (i k d : ℕ) → i < length image.live → k < length image.live → place i < place k → is_deferred image (place i) ≡ true → new_address image (place i) / R ≡ d → new_address image (place k) / R ≡ d → ⊥
  not_after i k d l m less late at on =
      let a : ℕ = new_address image (place i) in
      let n : ℕ = size_at image (place i) in
      let one = (sound.sound i 0 l).header in
      let before = new_ends_before i k l m less in
      let some = region_some image in
      let up = region-le R a (a + n - 1) some (omega arith) in
      let on_up = region-le R (a + n - 1) (new_address image (place k)) some (omega arith) in
      eqb-false (a / R) ((a + n - 1) / R) (not-true (eqb (a / R) ((a + n - 1) / R)) late) (omega arith)

  -- at most one deferred object begins in a region
  pub deferred-one : (i k : ℕ) → i < length image.live → k < length image.live → is_deferred image (place i) ≡ true → is_deferred image (place k) ≡ true
      → region_of image (new_address image (place i)) ≡ region_of image (new_address image (place k)) → place i ≡ place k
  deferred-one i k l m h g e = elim (cases_order (place i) (place k)) [
    | inl same ↦ same
    | inr other ↦ elim other [
      | inl less ↦ absurd (not_after i k (new_address image (place k) / R) l m less h e refl)
      | inr more ↦ absurd (not_after k i (new_address image (place i) / R) m l more g (sym e) refl)
    ]
  ]

  -- `deferred` has the object that begins in the region
  pub deferred-told : (i : ℕ) → i < length image.live → is_deferred image (place i) ≡ true → deferred image (region_of image (new_address image (place i))) ≡ Some (new_address image (place i))
  deferred-told i l h =
      let d : ℕ = new_address image (place i) / R in
      ap (option_map (new_address image)) (find-one (begins_in d) image.live i l (and_from (is_deferred image (place i)) (eqb d d) h (eq-eqb d d refl)) (λ k m e.
      let both = and_parts (is_deferred image (place k)) (eqb (new_address image (place k) / R) d) e in
      deferred-one k i m l both.0 h (eqb-true (new_address image (place k) / R) d both.1)))

  -- `deferred` of a region is the new address of a deferred object that begins there
  pub deferred-Some : (d x : ℕ) → deferred image d ≡ Some x → (i : ℕ) × (i < length image.live) × (is_deferred image (place i) ≡ true) × (new_address image (place i) ≡ x) × (region_of image x ≡ d)
  deferred-Some d x e = each (find (begins_in d) image.live) refl e
    where
      each : (o : Option ℕ) → find (begins_in d) image.live ≡ o → option_map (new_address image) o ≡ Some x → (i : ℕ) × (i < length image.live) × (is_deferred image (place i) ≡ true) × (new_address image (place i) ≡ x) × (region_of image x ≡ d)
      each None f e = absurd (none e)
        where
          none : None ≡ Some x → ⊥
          none h = cc
      each (Some a) f e =
          let r = find-Some (begins_in d) image.live a f in
          let i : ℕ = r.0 in
          let is : place i ≡ a = r.2 in
          let both = and_parts (is_deferred image a) (eqb (new_address image a / R) d) r.3 in
          let to : new_address image a ≡ x = ap (λ o. unwrap_or o 0) e in
          (i, r.1, ap (is_deferred image) is ∙ both.0, ap (new_address image) is ∙ to, ap (λ n. n / R) (sym to) ∙ eqb-true (new_address image a / R) d both.1)

  pub deferred-None : (d : ℕ) → ((i : ℕ) → i < length image.live → is_deferred image (place i) ≡ true → region_of image (new_address image (place i)) ≡ d → ⊥) → deferred image d ≡ None
  deferred-None d h = each (deferred image d) refl
    where
      each : (o : Option ℕ) → deferred image d ≡ o → o ≡ None
      each None e = refl
      each (Some x) e = let w = deferred-Some d x e in absurd (h w.0 w.1 w.2 (ap (region_of image) w.3 ∙ w.4))
