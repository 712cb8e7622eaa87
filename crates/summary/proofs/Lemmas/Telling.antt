-- The sources of the regions, set one by one.
use Rattle.std.proofs.Common.{◌≡◌, ◌≢◌, ℕ, ◌+◌, ◌*◌, ◌/◌, ◌≤◌, ◌<◌, inl, inr, List, length, get_or, refl, sym, ◌∙◌, ap, arith, ltb}
use Rattle.std.proofs.Math.ListN.{set, length-set}
use Rattle.std.proofs.lemmas.Bool.{cases_lt, cases_order, cond-true, cond-false, lt-ltb, le-ltb}
use Rattle.std.proofs.lemmas.Grind.{div_ceil_times}
use Rattle.std.proofs.lemmas.List.{get_or-set_same, get_or-set_other}
use Rattle.std.proofs.lemmas.List.FromFn.{fill_by_all, get_or-map-range_with_len, length-map-range_with_len}
use Rattle.std.specs.Int.{div_ceil}
use Rattle.std.specs.List.{range_with_len}
use Rattle.std.specs.Prelude.{map, Option, Some, None}
use Rattle.object_heap.specs.HeapImage.{HeapImage, IsValid, region_words, region_count, start_of, heap_words}
use Rattle.summary.specs.NewAddresses.{prefix_end}
use Rattle.summary.specs.RegionData.{data_words, destination, source, region_data}
use Rattle.summary.specs.RegionPlaces.{placed_region}
use Rattle.summary.specs.Sources.{if_below, region_so_far, StartsOnly}
use Rattle.summary.specs.declared.region_data.RegionData.{RegionData}
use Rattle.summary.proofs.Lemmas.Addresses.{prefix_end-le}
use Rattle.summary.proofs.Lemmas.RegionPlaces.{data-le, destination-low, destination-fits, destination-high}
use Rattle.summary.proofs.Lemmas.Readers.{data-in_range, region_below}
use Rattle.summary.proofs.Lemmas.Regions.{region_some, region_is, region_apart}
use Rattle.summary.proofs.Lemmas.Steps.{source-at, source-is}

told-none : (o : Option ℕ) → if_below o 0 ≡ None
told-none None = refl
told-none (Some t) = cond-false (ltb t 0) (Some t) None (le-ltb t 0 (omega arith))

told-all : (o : Option ℕ) (n : ℕ) → ((t : ℕ) → o ≡ Some t → t < n) → if_below o n ≡ o
told-all None n h = refl
told-all (Some t) n h = cond-true (ltb t n) (Some t) None (lt-ltb t n (h t refl))

told-same : (o : Option ℕ) (s : ℕ) → o ≢ Some s → if_below o (s + 1) ≡ if_below o s
told-same None s h = refl
told-same (Some t) s h = elim (cases_order t s) [
  | inl same ↦ absurd (h (ap Some same))
  | inr other ↦ elim other [
    | inl less ↦ cond-true (ltb t (s + 1)) (Some t) None (lt-ltb t (s + 1) (omega arith)) ∙ sym (cond-true (ltb t s) (Some t) None (lt-ltb t s less))
    | inr more ↦ cond-false (ltb t (s + 1)) (Some t) None (le-ltb t (s + 1) (omega arith)) ∙ sym (cond-false (ltb t s) (Some t) None (le-ltb t s (omega arith)))
  ]
]

told-new : (o : Option ℕ) (s : ℕ) → o ≡ Some s → if_below o (s + 1) ≡ Some s
told-new o s e = ap (λ p. if_below p (s + 1)) e ∙ cond-true (ltb s (s + 1)) (Some s) None (lt-ltb s (s + 1) (omega arith))

module _ (image : HeapImage) where
  abbrev pub with_source : ℕ → Option ℕ → RegionData
  with_source d o = record (region_data image d) { source = o }

  -- these regions have the sources that are among the first s regions
  abbrev pub Told : ℕ → List RegionData → Type 0
  Told s regions = (length regions ≡ region_count image) × ((d : ℕ) (none : RegionData) → d < region_count image → get_or regions d none ≡ region_so_far image s d)

module _ (image : HeapImage) (valid : IsValid image) where
  abbrev P : ℕ
  P = prefix_end image

  abbrev R : ℕ
  R = region_words image

  abbrev start : ℕ → ℕ
  start r = start_of image r

  abbrev first : ℕ → ℕ
  first s = div_ceil (destination image s) R

  -- the only start to which a word of region s can go
  source-first : (s d : ℕ) → source image d ≡ Some s → d ≡ first s
  source-first s d e =
      let is = source-is image valid.live_list d s e in
      let low : destination image s ≤ start d = is.3 in
      let high : start d < destination image s + data_words image s = is.4 in
      let few = data-le image valid s in
      let times = div_ceil_times (destination image s) R (region_some image) in
      let up : destination image s ≤ first s * R = times.0 in
      let down : first s * R < destination image s + R = times.1 in
      elim (cases_order d (first s)) [
        | inl same ↦ same
        | inr other ↦ elim other [
          | inl less ↦ let apart : start d + R ≤ first s * R = region_apart R d (first s) less in let no : ⊥ = omega arith in absurd no
          | inr more ↦ let apart : first s * R + R ≤ start d = region_apart R (first s) d more in let no : ⊥ = omega arith in absurd no
        ]
      ]

  pub starts-only : (s : ℕ) → s < region_count image → P ≤ destination image s → first s * R < destination image s + data_words image s → StartsOnly image s (first s)
  starts-only s l h below =
      let high : P ≤ start s = elim (cases_lt (start s) P) [
        | inl low ↦ let at = destination-low image valid s low in let no : ⊥ = omega arith in absurd no
        | inr high ↦ high
      ] in
      let times = div_ceil_times (destination image s) R (region_some image) in
      let up : destination image s ≤ first s * R = times.0 in
      let fits = destination-fits image valid s l high in
      let at = region_below image valid (start (first s)) (omega arith) in
      let is : start (first s) / R ≡ first s = region_is R (first s) (start (first s)) (omega arith) (let some = region_some image in omega arith) in
      record {
        inside = omega arith;
        here = source-at image valid.live_list (first s) s high up below;
        only = λ k e. source-first s k e;
      }

  pub starts-none : (s d : ℕ) → (P ≤ destination image s → first s * R < destination image s + data_words image s → ⊥) → source image d ≡ Some s → ⊥
  starts-none s d none e =
      let is = source-is image valid.live_list d s e in
      let high : P ≤ start s = is.2 in
      let some : destination image s ≤ start d = is.3 in
      let below : start d < destination image s + data_words image s = is.4 in
      let l = data-in_range image valid s (omega arith) in
      let same = source-first s d e in
      let at : start d ≡ first s * R = ap (λ n. n * R) same in
      none (destination-high image valid s l high) (omega arith)

  pub destination-le : (s : ℕ) → s < region_count image → destination image s ≤ heap_words image
  destination-le s l = elim (cases_lt (start s) P) [
    | inl low ↦ let at = destination-low image valid s low in let few = prefix_end-le image valid.live_list in omega arith
    | inr high ↦ let fits = destination-fits image valid s l high in omega arith
  ]

  source-in_range : (d s : ℕ) → source image d ≡ Some s → s < region_count image
  source-in_range d s e =
      let is = source-is image valid.live_list d s e in
      let some : destination image s ≤ start d = is.3 in
      let below : start d < destination image s + data_words image s = is.4 in
      data-in_range image valid s (omega arith)

  pub told_first : (regions : List RegionData) → regions ≡ map (placed_region image) (range_with_len 0 (region_count image)) → Told image 0 regions
  told_first regions e = (
    ap length e ∙ length-map-range_with_len (placed_region image) 0 (region_count image),
    λ d none l. ap (λ rs. get_or rs d none) e
        ∙ get_or-map-range_with_len (placed_region image) 0 (region_count image) d d none l (omega arith)
        ∙ ap (with_source image d) (sym (told-none (source image d))),
  )

  pub told_none : (s : ℕ) (regions : List RegionData) → ((d : ℕ) → source image d ≢ Some s) → Told image s regions → Told image (s + 1) regions
  told_none s regions none h = (h.0, λ d z l. h.1 d z l ∙ ap (with_source image d) (sym (told-same (source image d) s (none d))))

  pub told_one : (s d : ℕ) (regions : List RegionData) (changed : RegionData) → StartsOnly image s d → changed ≡ record (region_so_far image s d) { source = Some s } → Told image s regions → Told image (s + 1) (set regions d changed)
  told_one s d regions changed starts e h = (
    length-set regions d changed ∙ h.0,
    λ k z l. elim (cases_order k d) [
      | inl same ↦
          let inside : d < length regions = let n = h.0 in let m = starts.inside in omega arith in
          ap (λ n. get_or (set regions d changed) n z) same
          ∙ get_or-set_same regions d changed z inside
          ∙ e
          ∙ ap (with_source image d) (sym (told-new (source image d) s starts.here))
          ∙ ap (region_so_far image (s + 1)) (sym same)
      | inr other ↦
          let differ : k ≢ d = λ same. elim other [ inl less ↦ let no : ⊥ = omega arith in no | inr more ↦ let no : ⊥ = omega arith in no ] in
          get_or-set_other regions d k changed z differ
          ∙ h.1 k z l
          ∙ ap (with_source image k) (sym (told-same (source image k) s (λ q. differ (starts.only k q))))
    ],
  )

  pub told_last : (s : ℕ) (regions : List RegionData) → s ≡ region_count image → Told image s regions → regions ≡ map (region_data image) (range_with_len 0 (region_count image))
  told_last s regions e h = fill_by_all (region_data image) regions (region_count image) none h.0 (λ d l. h.1 d none l ∙ ap (with_source image d) (told-all (source image d) s (λ t q. let in_range = source-in_range d t q in omega arith)))
    where
      none : RegionData
      none = record { partial = 0; live = 0; destination = 0; count = 0; source = None }
