use Rattle.std.proofs.Common.{ℕ, ◌≡◌, ◌≤◌, ◌<◌, ◌*◌, ◌+◌, ◌%◌, [], ◌∷◌, ◌++◌, inl, inr, ◌∙◌, ap, sym, refl, arith, zero-add}
use Rattle.std.proofs.lemmas.Bool.{cases_lt}
use Rattle.std.proofs.lemmas.Nat.{div-add-mod'}
use Rattle.std.proofs.lemmas.List.FromFn.{map-range_with_len_more}
use Rattle.std.specs.Prelude.{map}
use Rattle.std.specs.List.{range_with_len}
use Rattle.object_heap.specs.HeapImage.{start_of, region_words, region_count, heap_words}
use Rattle.summary.specs.NewAddresses.{prefix_end}
use Rattle.summary.specs.RegionData.{destination, data_words}
use Rattle.summary.specs.RegionPlaces.{placed_region}
use Rattle.summary.specs.declared.plan.region_counts.RegionCounts.{RegionCounts}
use Rattle.summary.specs.declared.region_data.RegionData.{RegionData}
use Rattle.summary.proofs.Lemmas.Addresses.{prefix_end-le}
use Rattle.summary.proofs.Lemmas.RegionPlaces.{destination-low, destination-high, destination-step, destination-first, destination-none, destination-fits}
use Rattle.summary.proofs.Lemmas.Steps.{destination-top}
use Rattle.summary.proofs.plan.region_places.RegionPlaces.of.Goals as goal
use Rattle.summary.proofs.plan.region_places.RegionPlaces.of.Goals.{then-region-prefix, else-region-prefix}

pub placed-region-requires-clause-inside : goal.placed-region-requires-clause-inside
placed-region-requires-clause-inside c =
    let long = c.requires.number in
    let below = c.loop-r-test.true in
    omega arith

pub placed-region-requires-clause-counts : goal.placed-region-requires-clause-counts
placed-region-requires-clause-counts c =
    let none : RegionCounts = record { partial = 0; live = 0 } in
    let long = c.requires.number in
    let below = c.loop-r-test.true in
    c.requires.each c.loop-r.r none (omega arith)

pub overflow_add-next : goal.overflow_add-next
overflow_add-next c =
    let image = c.args.image.now in
    let valid = c.prefix_end-prefix.ensures.valid in
    let r = c.loop-r.r in
    let none : RegionCounts = record { partial = 0; live = 0 } in
    let long = c.requires.number in
    let below = c.loop-r-test.true in
    let inside : r < region_count image = omega arith in
    let is : c.live_words.result ≡ data_words image r = c.live_words.ensures ∙ ap (λ (k : RegionCounts). k.partial + k.live) (c.requires.each r none inside) in
    let to : c.placed-region.result.destination ≡ destination image r = ap (λ (k : RegionData). k.destination) c.placed-region.ensures in
    let prefix = c.prefix_end-prefix.ensures.value in
    let behind = c.if-region-prefix.true in
    let few = valid.limits.few_words in
    elim (cases_lt (start_of image r) (prefix_end image)) [
      | inl low ↦ let at = destination-low image valid r low in let no : ⊥ = omega arith in absurd no
      | inr high ↦ let fits = destination-fits image valid r inside high in omega arith
    ]

pub loop-r-init : goal.loop-r-init
loop-r-init c =
    let image = c.args.image.now in
    let prefix = c.prefix_end-prefix.ensures.value in
    (c.in_ok-regions.ensures.items, (λ _. refl), λ h. prefix ∙ destination-none image c.prefix_end-prefix.ensures.valid (omega arith))

pub loop-r-preserved : goal.loop-r-preserved
loop-r-preserved c =
    let image = c.args.image.now in
    let valid = c.prefix_end-prefix.ensures.valid in
    let r = c.loop-r.r in
    let none : RegionCounts = record { partial = 0; live = 0 } in
    let long = c.requires.number in
    let below = c.loop-r-test.true in
    let inside : r < region_count image = omega arith in
    let to : c.placed-region.result.destination ≡ destination image r = ap (λ (k : RegionData). k.destination) c.placed-region.ensures in
    let prefix = c.prefix_end-prefix.ensures.value in
    let next_start : start_of image (r + 1) ≡ start_of image r + region_words image = omega arith in
    let items =
    c.in_ok-push.ensures.items
    ∙ ap (λ rs. rs ++ c.without_source.result ∷ []) c.loop-r.invariant.0
    ∙ ap (λ (k : RegionData). map (placed_region image) (range_with_len 0 r) ++ k ∷ []) (c.without_source.ensures ∙ c.placed-region.ensures)
    ∙ sym (map-range_with_len_more (placed_region image) 0 r r (zero-add r)) in
    elim c.if-region-prefix.branch [
      | then-region-prefix w ↦
          let behind = w.if-region-prefix.true in
          let is : w.live_words.result ≡ data_words image r = w.live_words.ensures ∙ ap (λ (k : RegionCounts). k.partial + k.live) (c.requires.each r none inside) in
          let high : prefix_end image ≤ start_of image r = elim (cases_lt (start_of image r) (prefix_end image)) [
            | inl low ↦ let at = destination-low image valid r low in let no : ⊥ = omega arith in absurd no
            | inr high ↦ high
          ] in
          let step = destination-step image valid r inside high in
          rw w.next-is (items, (λ l. let no : ⊥ = omega arith in absurd no), λ l. omega arith)
      | else-region-prefix w ↦
          let before = w.if-region-prefix.false in
          let low : start_of image r < prefix_end image = elim (cases_lt (start_of image r) (prefix_end image)) [
            | inl low ↦ low
            | inr high ↦ let at = destination-high image valid r inside high in let no : ⊥ = omega arith in absurd no
          ] in
          let kept = c.loop-r.invariant.1 (omega arith) in
          rw w.next-is (items, (λ l. kept), λ l. kept ∙ prefix ∙ destination-first image valid r low (omega arith))
    ]

pub returns : goal.returns
returns c =
    let image = c.args.image.now in
    let valid = c.prefix_end-prefix.ensures.valid in
    let n : ℕ = region_words image in
    let long = c.requires.number in
    let up = c.loop-r.auto.r-end in
    let down = c.loop-r-test.false in
    let all : c.loop-r.r ≡ region_count image = omega arith in
    let whole = div-add-mod' (heap_words image) n in
    let none : heap_words image % n ≡ 0 = valid.limits.whole_regions in
    let end : start_of image c.loop-r.r ≡ heap_words image = ap (λ r. r * n) all ∙ omega arith in
    let low = prefix_end-le image valid.live_list in
    let prefix = c.prefix_end-prefix.ensures.value in
    record {
      regions = c.loop-r.invariant.0 ∙ ap (λ r. map (placed_region image) (range_with_len 0 r)) all;
      prefix = prefix;
      top = c.loop-r.invariant.2 (omega arith) ∙ ap (destination image) all ∙ destination-top image valid;
    }
