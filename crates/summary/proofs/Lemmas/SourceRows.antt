-- The regions that a region reads are those with data, from the first one on, whose destination is below its end.
use Rattle.std.proofs.Common.{◌≡◌, ℕ, ◌+◌, ◌-◌, ◌*◌, ◌≤◌, ◌<◌, inl, inr, true, false, List, length, get_or, refl, sym, ◌∙◌, ap, subst, arith, ltb}
use Rattle.std.proofs.lemmas.Bool.{cases_Bool, cases_lt, cases_order, and_parts, and_from, ltb-true, lt-ltb}
use Rattle.std.proofs.lemmas.List.FromFn.{length-map-range_with_len}
use Rattle.std.specs.Prelude.{filter, Some, None, unwrap_or, max, min}
use Rattle.std.specs.List.{range_with_len}
use Rattle.object_heap.specs.HeapImage.{HeapImage, IsValid, HasLiveList, region_words, region_count, start_of}
use Rattle.summary.specs.NewAddresses.{prefix_end, new_top}
use Rattle.summary.specs.WordMoves.{reads}
use Rattle.summary.specs.RegionData.{region_data, data_words, destination, source}
use Rattle.summary.specs.Plan.{AreRegions, sources_from}
use Rattle.summary.specs.Reads.{goes_below, no_data, sources_below, AreInOrder, BeginAt}
use Rattle.summary.specs.declared.region_data.RegionData.{RegionData}
use Rattle.summary.proofs.Lemmas.Destinations.{destination-live_words}
use Rattle.summary.proofs.Lemmas.Blocks.{region_in_heap}
use Rattle.summary.proofs.Lemmas.Filters.{filter-skip, filter-none, filter-same}
use Rattle.summary.proofs.Lemmas.RegionPlaces.{destination-low, destination-high}
use Rattle.summary.proofs.Lemmas.Readers.{same_Bool, reads-below, reads-targets, reads-destination, prefix-reads, next-reads, reads-filled, reads-in_range, source-Some}
use Rattle.summary.proofs.Lemmas.Regions.{prefix_region, region_apart, region_at}
use Rattle.summary.proofs.Lemmas.Steps.{source-is}
use Rattle.summary.proofs.Lemmas.Words.{live_words-add}

module _ (image : HeapImage) (valid : IsValid image) where
  abbrev P : ℕ
  P = prefix_end image

  abbrev R : ℕ
  R = region_words image

  abbrev start : ℕ → ℕ
  start r = start_of image r

  abbrev sound : HasLiveList image
  sound = valid.live_list

  start-le : (i j : ℕ) → i ≤ j → start i ≤ start j
  start-le i j l = elim (cases_order i j) [
    | inl same ↦ let e : start i ≡ start j = ap start same in omega arith
    | inr other ↦ elim other [
      | inl less ↦ let up : i * R + R ≤ j * R = region_apart R i j less in omega arith
      | inr more ↦ let no : ⊥ = omega arith in absurd no
    ]
  ]

  pub destination-ascending : (i j : ℕ) → i ≤ j → j < region_count image → destination image i ≤ destination image j
  destination-ascending i j l m =
      let up = start-le i j l in
      elim (cases_lt (start i) P) [
        | inl low ↦
            let at = destination-low image valid i low in
            elim (cases_lt (start j) P) [
              | inl low_too ↦ let on = destination-low image valid j low_too in omega arith
              | inr high ↦ let on = destination-high image valid j m high in omega arith
            ]
        | inr high ↦
            let i_in = region_in_heap image i (omega arith) in
            let j_in = region_in_heap image j m in
            let at = destination-live_words image sound i high (omega arith) in
            let on = destination-live_words image sound j (omega arith) (omega arith) in
            let parts = live_words-add image P (start i) (start j) high up in
            omega arith
      ]

  -- a region that is read has words that go below the reader's end
  read_goes_below : (d q : ℕ) → reads image d q ≡ true → goes_below (start d + R) (region_data image q) ≡ true
  read_goes_below d q h =
      let words = reads-targets image sound d q h in
      and_from (ltb 0 (data_words image q)) (ltb (destination image q) (start d + R)) (lt-ltb 0 (data_words image q) words.0) (lt-ltb (destination image q) (start d + R) (reads-destination image sound d q h))

  not_read : (d q : ℕ) → (reads image d q ≡ true → ⊥) → reads image d q ≡ false
  not_read d q none = elim (cases_Bool (reads image d q)) [ inl read ↦ absurd (none read) | inr other ↦ other ]

  pub begin_in_prefix : (d : ℕ) → d < region_count image → start d < P → BeginAt image d d
  begin_in_prefix d l low = record {
    inside = omega arith;
    before = λ q less. not_read d q (λ h. let down = reads-below image sound d q h in let no : ⊥ = omega arith in no);
    behind = λ q more inside. same_Bool (reads image d q) (goes_below (start d + R) (region_data image q)) (read_goes_below d q) (λ h.
        let both = and_parts (ltb 0 (data_words image q)) (ltb (destination image q) (start d + R)) h in
        let some = ltb-true 0 (data_words image q) both.0 in
        let below = ltb-true (destination image q) (start d + R) both.1 in
        elim (cases_order d q) [
          | inl same ↦ ap (reads image d) (sym same) ∙ prefix-reads image sound d low (subst (λ (n : ℕ). 0 < data_words image n) (sym same) some)
          | inr other ↦ elim other [
            | inl less ↦
                let apart : d * R + R ≤ q * R = region_apart R d q less in
                let end = prefix_region image d low in
                let no : ⊥ = elim (cases_lt (start q) P) [
                  | inl low_too ↦ let at = destination-low image valid q low_too in let no : ⊥ = omega arith in no
                  | inr high ↦ let at = destination-high image valid q inside high in let no : ⊥ = omega arith in no
                ] in absurd no
            | inr fewer ↦ let no : ⊥ = omega arith in absurd no
          ]
        ]);
  }

  pub begin_at_source : (d s : ℕ) → source image d ≡ Some s → BeginAt image d s
  begin_at_source d s e =
      let is = source-is image sound d s e in
      let to_fill = lt-ltb (start d) (new_top image) is.1 in
      let first = source-Some image sound d is.0 to_fill in
      let same : first.0 ≡ s = ap (λ o. unwrap_or o 0) (sym first.1 ∙ e) in
      let read : reads image d s ≡ true = ap (reads image d) (sym same) ∙ first.2 in
      let s_in = (reads-in_range image valid d s read).1 in
      record {
        inside = omega arith;
        before = λ q less. not_read d q (λ h. let up = first.3 q h in let no : ⊥ = omega arith in no);
        behind = λ q more inside. same_Bool (reads image d q) (goes_below (start d + R) (region_data image q)) (read_goes_below d q) (λ h.
            let both = and_parts (ltb 0 (data_words image q)) (ltb (destination image q) (start d + R)) h in
            next-reads image sound d s q read more (ltb-true 0 (data_words image q) both.0) (ltb-true (destination image q) (start d + R) both.1));
      }

  pub begin_nowhere : (d : ℕ) → P ≤ start d → source image d ≡ None → BeginAt image d (region_count image)
  begin_nowhere d high e = record {
    inside = omega arith;
    before = λ q less. not_read d q (λ h.
        let first = source-Some image sound d high (reads-filled image sound d q h) in
        none first.0 (sym e ∙ first.1));
    behind = λ q more inside. let no : ⊥ = omega arith in absurd no;
  }
    where
      none : (s : ℕ) → None ≡ Some s → ⊥
      none s h = cc

  -- ---- over the table of all regions

  pub table_in_order : (regions : List RegionData) → AreRegions image regions → AreInOrder regions
  table_in_order regions all =
      let long = ap length all ∙ length-map-range_with_len (region_data image) 0 (region_count image) in
      let few = valid.limits.few_regions in
      record {
        few = omega arith;
        ascending = λ i j l m.
            let at = ap (λ (k : RegionData). k.destination) (region_at image regions all i i no_data (omega arith) refl) in
            let on = ap (λ (k : RegionData). k.destination) (region_at image regions all j j no_data (omega arith) refl) in
            let up = destination-ascending i j l (omega arith) in
            omega arith;
      }

  pub sources_of_table : (regions : List RegionData) → AreRegions image regions → (d first from next end : ℕ) → BeginAt image d first → end ≡ start d + R → next ≡ min (max first from) (length regions)
      → sources_below end next regions ≡ sources_from image d from
  sources_of_table regions all d first from next end begin e f =
      let n : ℕ = region_count image in
      let long : length regions ≡ n = ap length all ∙ length-map-range_with_len (region_data image) 0 n in
      let inside = begin.inside in
      elim (cases_lt from n) [
        | inl more ↦
            let at : from + (next - from) ≡ next = omega arith in
            let rest : next - from + (n - next) ≡ n - from = omega arith in
            ap (λ k. filter (λ s. goes_below end (get_or regions s no_data)) (range_with_len next (k - next))) long
            ∙ filter-same (λ s. goes_below end (get_or regions s no_data)) (reads image d) next (n - next) (λ q l h.
            ap (goes_below end) (region_at image regions all q q no_data (omega arith) refl)
            ∙ ap (λ m. goes_below m (region_data image q)) e
            ∙ sym (begin.behind q (omega arith) (omega arith)))
            ∙ sym (filter-skip (reads image d) (next - from) from (n - from) next (n - next) at rest (λ q l h. begin.before q (omega arith)))
        | inr past ↦
            filter-none (λ s. goes_below end (get_or regions s no_data)) next (length regions - next) (λ q l h. let no : ⊥ = omega arith in absurd no)
            ∙ sym (filter-none (reads image d) from (n - from) (λ q l h. let no : ⊥ = omega arith in absurd no))
      ]

  -- a region out of range reads none
  pub begin_out_of_range : (d : ℕ) → region_count image ≤ d → BeginAt image d (region_count image)
  begin_out_of_range d high = record {
    inside = omega arith;
    before = λ q less. not_read d q (λ h. let low = (reads-in_range image valid d q h).0 in let no : ⊥ = omega arith in absurd no);
    behind = λ q more inside. let no : ⊥ = omega arith in absurd no;
  }
