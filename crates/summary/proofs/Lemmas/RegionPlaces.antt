-- The places of the regions by the counts of their live words.
use Rattle.std.proofs.Common.{◌≡◌, ℕ, ◌+◌, ◌-◌, ◌*◌, ◌/◌, ◌%◌, ◌≤◌, ◌<◌, inl, inr, List, length, get_or, sym, ◌∙◌, ap, arith, ltb}
use Rattle.std.proofs.lemmas.Bool.{cases_lt, cond-true, cond-false, lt-ltb, le-ltb}
use Rattle.std.proofs.lemmas.Nat.{div-add-mod', mul-le}
use Rattle.std.proofs.lemmas.List.FromFn.{get_or-map-range_with_len, length-map-range_with_len}
use Rattle.std.proofs.Math.Nat.{zero-mul}
use Rattle.std.specs.Prelude.{None}
use Rattle.object_heap.specs.HeapImage.{HeapImage, IsValid, region_words, heap_words, region_count, start_of}
use Rattle.summary.specs.NewAddresses.{dead_words_below, prefix_end}
use Rattle.summary.specs.RegionData.{partial_words, own_words, data_words, destination, readers_from}
use Rattle.summary.specs.RegionPlaces.{region_counts, placed_region, AreRegionCounts}
use Rattle.summary.specs.declared.plan.region_counts.RegionCounts.{RegionCounts}
use Rattle.summary.proofs.Lemmas.Blocks.{region_in_heap}
use Rattle.summary.proofs.Lemmas.Destinations.{destination-live_words}
use Rattle.summary.proofs.Lemmas.Prefix.{prefix_end_is}
use Rattle.summary.proofs.Lemmas.Readers.{reader_count-is}
use Rattle.summary.proofs.Lemmas.Regions.{data-live_words}
use Rattle.summary.proofs.Lemmas.Steps.{dead-region, destination-prefix, destination-next}
use Rattle.summary.proofs.Lemmas.Words.{live_words-le}

module _ (image : HeapImage) (valid : IsValid image) where
  abbrev P : ℕ
  P = prefix_end image

  abbrev R : ℕ
  R = region_words image

  abbrev start : ℕ → ℕ
  start r = start_of image r

  start_next : (r : ℕ) → start (r + 1) ≡ start r + R
  start_next r = omega arith

  pub data-le : (r : ℕ) → data_words image r ≤ R
  data-le r =
      let all = data-live_words image valid.live_list r in
      let few = live_words-le image (start r) (start r + R) in
      omega arith

  pub dead-next : (r d : ℕ) → d ≡ dead_words_below image (start r) → d + (R - data_words image r) ≡ dead_words_below image ((r + 1) * R)
  dead-next r d e =
      let step = dead-region image valid.live_list r in
      let few = data-le r in
      let at : dead_words_below image ((r + 1) * R) ≡ dead_words_below image (start r + R) = ap (dead_words_below image) (start_next r) in
      omega arith

  -- ---- destinations

  pub destination-low : (r : ℕ) → start r < P → destination image r ≡ start r
  destination-low r l = destination-prefix image valid.live_list r (omega arith)

  pub destination-high : (r : ℕ) → r < region_count image → P ≤ start r → P ≤ destination image r
  destination-high r l h =
      let in_heap = region_in_heap image r l in
      let to = destination-live_words image valid.live_list r h (omega arith) in
      omega arith

  pub destination-step : (r : ℕ) → r < region_count image → P ≤ start r → destination image r + data_words image r ≡ destination image (r + 1)
  destination-step r l h = sym (destination-next image valid.live_list r h (region_in_heap image r l))

  -- the first region after the prefix
  pub destination-first : (r : ℕ) → start r < P → P ≤ start (r + 1) → P ≡ destination image (r + 1)
  destination-first r l h =
      let n : ℕ = R in
      let aligned : P % n ≡ 0 = (prefix_end_is image).aligned in
      let whole = div-add-mod' P n in
      let low : r < P / n = elim (cases_lt r (P / n)) [
        | inl fine ↦ fine
        | inr more ↦ let up : P / n * n ≤ r * n = mul-le (P / n) n r n more (omega arith) in let no : ⊥ = omega arith in absurd no
      ] in
      let up : (r + 1) * n ≤ P / n * n = mul-le (r + 1) n (P / n) n (omega arith) (omega arith) in
      let same : start (r + 1) ≡ P = omega arith in
      let at = destination-prefix image valid.live_list (r + 1) (omega arith) in
      omega arith

  pub destination-none : P ≤ start 0 → P ≡ destination image 0
  destination-none h =
      let z : start 0 ≡ 0 = zero-mul R in
      let at = destination-prefix image valid.live_list 0 (omega arith) in
      omega arith

  pub destination-fits : (r : ℕ) → r < region_count image → P ≤ start r → destination image r + data_words image r ≤ heap_words image
  destination-fits r l h =
      let in_heap = region_in_heap image r l in
      let to = destination-live_words image valid.live_list r h (omega arith) in
      let few = live_words-le image P (start r) in
      let few_data = data-le r in
      omega arith

  -- ---- the data of a region

  pub placed-prefix : (r : ℕ) → start r < P → record { partial = partial_words image r; live = own_words image r; destination = start r; count = 0; source = None } ≡ placed_region image r
  placed-prefix r l =
      let to = destination-low r l in
      let none = reader_count-is image valid r ∙ cond-true (ltb (start r) P) 0 (readers_from image r (destination image r) (data_words image r)) (lt-ltb (start r) P l) in
      ap (λ (d : ℕ). record { partial = partial_words image r; live = own_words image r; destination = d; count = 0; source = None }) (sym to)
      ∙ ap (λ (n : ℕ). record { partial = partial_words image r; live = own_words image r; destination = destination image r; count = n; source = None }) (sym none)

  pub placed-behind : (r next : ℕ) → P ≤ start r → next ≡ destination image r → record { partial = partial_words image r; live = own_words image r; destination = next; count = readers_from image r next (data_words image r); source = None } ≡ placed_region image r
  placed-behind r next h e =
      let some = reader_count-is image valid r ∙ cond-false (ltb (start r) P) 0 (readers_from image r (destination image r) (data_words image r)) (le-ltb (start r) P h) in
      ap (λ (d : ℕ). record { partial = partial_words image r; live = own_words image r; destination = d; count = readers_from image r d (data_words image r); source = None }) e
      ∙ ap (λ (n : ℕ). record { partial = partial_words image r; live = own_words image r; destination = destination image r; count = n; source = None }) (sym some)
