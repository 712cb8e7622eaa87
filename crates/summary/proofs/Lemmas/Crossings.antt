-- The deferred object of a region is the last one that begins below the region's end, if it crosses that end.
use Rattle.std.proofs.Common.{◌≡◌, ℕ, ◌+◌, ◌-◌, ◌*◌, ◌/◌, ◌≤◌, ◌<◌, inl, inr, true, length, get_or, false, sym, ◌∙◌, ap, subst, arith, eqb, ltb, drop, length-drop}
use Rattle.std.proofs.lemmas.Bool.{cases_Bool, cases_lt, cases_order, eqb-false, eqb-true, ltb-true, not-true}
use Rattle.std.proofs.lemmas.List.{get_or-drop}
use Rattle.std.proofs.lemmas.List.Sums.{prefix_len-le-length, prefix_len_passes}
use Rattle.std.specs.Prelude.{Some, None, not}
use Rattle.std.specs.List.{prefix_len}
use Rattle.object_heap.specs.HeapImage.{HeapImage, HasLiveList, region_words, region_of, start_of, size_at}
use Rattle.summary.specs.LiveObjects.{ArePlacedBelow}
use Rattle.summary.specs.NewAddresses.{prefix_end, new_address}
use Rattle.summary.specs.WordMoves.{slid}
use Rattle.summary.specs.Compaction.{is_deferred}
use Rattle.summary.specs.RegionData.{deferred}
use Rattle.summary.proofs.Lemmas.Graph.{new-apart, new-ordered}
use Rattle.summary.proofs.Lemmas.Addresses.{new_address-slid}
use Rattle.summary.proofs.Lemmas.Words.{slid-low, slid-high, live_words-add, live_words-le}
use Rattle.summary.proofs.Lemmas.Steps.{place-ordered}
use Rattle.summary.proofs.Lemmas.Objects.{deferred-told, deferred-None}
use Rattle.summary.proofs.Lemmas.Regions.{region_is, region_low, region_high, region_some}

module _ (image : HeapImage) (sound : HasLiveList image) where
  abbrev place : ℕ → ℕ
  place i = get_or image.live i 0

  abbrev R : ℕ
  R = region_words image

  abbrev to : ℕ → ℕ
  to i = new_address image (place i)

  abbrev size : ℕ → ℕ
  size i = size_at image (place i)

  pub to-le : (i k : ℕ) → i ≤ k → k < length image.live → to i ≤ to k
  to-le i k l m = elim (cases_order i k) [
    | inl same ↦ let e : to i ≡ to k = ap to same in omega arith
    | inr other ↦ elim other [
      | inl less ↦ let up = new-ordered image sound i k less m in omega arith
      | inr more ↦ let no : ⊥ = omega arith in absurd no
    ]
  ]

  -- no word moves farther down than a later one
  slid-near : (q r : ℕ) → q ≤ r → slid image r + q ≤ slid image q + r
  slid-near q r l = elim (cases_lt r (prefix_end image)) [
    | inl low ↦ let e = slid-low image r low in let f = slid-low image q (omega arith) in omega arith
    | inr high ↦
        let e = slid-high image r high in
        elim (cases_lt q (prefix_end image)) [
          | inl below ↦ let f = slid-low image q below in let few = live_words-le image (prefix_end image) r in omega arith
          | inr above ↦
              let f = slid-high image q above in
              let cut = live_words-add image (prefix_end image) q r above l in
              let few = live_words-le image q r in
              omega arith
        ]
  ]

  -- nor does any object
  to-near : (i k : ℕ) → i ≤ k → k < length image.live → to k + place i ≤ to i + place k
  to-near i k l m =
      let one = new_address-slid image sound i 0 (omega arith) (sound.sound i 0 (omega arith)).header in
      let two = new_address-slid image sound k 0 m (sound.sound k 0 m).header in
      elim (cases_order i k) [
        | inl same ↦ let e : to i ≡ to k = ap to same in let f : place i ≡ place k = ap place same in omega arith
        | inr other ↦ elim other [
          | inl less ↦
              let up = place-ordered image sound i k less m in
              let near = slid-near (place i + 0) (place k + 0) (omega arith) in
              omega arith
          | inr more ↦ let no : ⊥ = omega arith in absurd no
        ]
      ]

  -- If an object goes n words below a limit, all objects that begin at most n words after it go below the limit too.
  pub more_below : (n m near limit : ℕ) → n < length image.live → to n < limit → near ≡ place n + (limit - to n) → m ≡ prefix_len (λ a. ltb a near) (drop n image.live) → ((i : ℕ) → i < n → to i < limit)
      → (n + m ≤ length image.live) × ((i : ℕ) → i < n + m → to i < limit)
  more_below n m near limit l low is count known =
      let few = prefix_len-le-length (λ a. ltb a near) (drop n image.live) in
      let long = length-drop n image.live in
      let within : n + m ≤ length image.live = omega arith in (
        within,
        λ i k. elim (cases_lt i n) [
          | inl less ↦ known i less
          | inr more ↦
              let at : n + (i - n) ≡ i = omega arith in
              let same : get_or (drop n image.live) (i - n) 0 ≡ place i = get_or-drop n image.live (i - n) 0 ∙ ap place at in
              let close = ltb-true (get_or (drop n image.live) (i - n) 0) near (prefix_len_passes (λ a. ltb a near) (drop n image.live) (i - n) 0 (omega arith)) in
              let h = to-near n i more (omega arith) in
              omega arith
        ],
      )

  -- a deferred object that begins in a region ends above the region's end
  crosses : (d k : ℕ) → k < length image.live → is_deferred image (place k) ≡ true → region_of image (to k) ≡ d → (start_of image d ≤ to k) × (to k < start_of image d + R) × (start_of image d + R < to k + size k)
  crosses d k l late at =
      let a : ℕ = to k in
      let last : ℕ = a + size k - 1 in
      let some = region_some image in
      let first : d * R ≤ a = subst (λ (n : ℕ). n * R ≤ a) at (region_low R a) in
      let inside : a < d * R + R = subst (λ (n : ℕ). a < n * R + R) at (region_high R a some) in
      let header = (sound.sound k 0 l).header in
      let apart = eqb-false (a / R) (last / R) (not-true (eqb (a / R) (last / R)) late) in
      elim (cases_lt last (d * R + R)) [
        | inl short ↦ absurd (apart (at ∙ sym (region_is R d last (omega arith) short)))
        | inr long ↦ (first, inside, omega arith)
      ]

  pub none_below : (d n : ℕ) → n ≡ 0 → ArePlacedBelow image (start_of image d + R) n → deferred image d ≡ None
  none_below d n none below = deferred-None image sound d (λ k l late at.
      let cross = crosses d k l late at in
      let up = below.above k (omega arith) l in
      let inside : to k < start_of image d + R = cross.1 in
      let no : ⊥ = omega arith in no)

  -- the last object below the end of the region crosses it
  pub last_crosses : (d n : ℕ) → 0 < n → ArePlacedBelow image (start_of image d + R) n → start_of image d ≤ to (n - 1) → start_of image d + R < to (n - 1) + size (n - 1) → deferred image d ≡ Some (to (n - 1))
  last_crosses d n some below first over =
      let i : ℕ = n - 1 in
      let within = below.within in
      let l : i < length image.live = omega arith in
      let inside = below.below i (omega arith) in
      let at : region_of image (to i) ≡ d = region_is R d (to i) first inside in
      let apart : eqb (region_of image (to i)) ((to i + size i - 1) / R) ≡ false = elim (cases_Bool (eqb (region_of image (to i)) ((to i + size i - 1) / R))) [
        | inl same ↦
            let e : d ≡ (to i + size i - 1) / R = sym at ∙ eqb-true (region_of image (to i)) ((to i + size i - 1) / R) same in
            let high : to i + size i - 1 < d * R + R = subst (λ (q : ℕ). to i + size i - 1 < q * R + R) (sym e) (region_high R (to i + size i - 1) (region_some image)) in
            let no : ⊥ = omega arith in absurd no
        | inr other ↦ other
      ] in
      ap (deferred image) (sym at) ∙ deferred-told image sound i l (ap not apart)

  -- it does not
  pub last_stays_inside : (d n : ℕ) → 0 < n → ArePlacedBelow image (start_of image d + R) n → (start_of image d ≤ to (n - 1) → start_of image d + R < to (n - 1) + size (n - 1) → ⊥) → deferred image d ≡ None
  last_stays_inside d n some below inside = deferred-None image sound d (λ k l late at.
      let i : ℕ = n - 1 in
      let within = below.within in
      let cross = crosses d k l late at in
      let first : start_of image d ≤ to k = cross.0 in
      let low : to k < start_of image d + R = cross.1 in
      let over : start_of image d + R < to k + size k = cross.2 in
      let last = below.below i (omega arith) in
      elim (cases_order k i) [
        | inl same ↦
            let e : to k ≡ to i = ap to same in
            let f : size k ≡ size i = ap size same in
            inside (omega arith) (omega arith)
        | inr other ↦ elim other [
          | inl less ↦ let up : to k + size k ≤ to i = new-apart image sound k i less (omega arith) in let no : ⊥ = omega arith in no
          | inr more ↦ let up = below.above k (omega arith) l in let no : ⊥ = omega arith in no
        ]
      ])
