use Rattle.std.proofs.Common.{ℕ, arith, ◌≤◌, ◌<◌, ◌^◌, ◌≡◌, ◌-◌, ◌*◌, ◌/◌, ◌+◌, ◌%◌, ◌∙◌, ap}
use Rattle.std.proofs.lemmas.Nat.{mul-le, div-add-mod', le-div}
use Rattle.object_heap.specs.HeapImage.{region_words, heap_words, last_end}
use Rattle.summary.specs.NewAddresses.{greatest, dead_words_below, is_allowed}
use Rattle.summary.specs.RegionData.{data_words}
use Rattle.summary.specs.declared.plan.region_counts.RegionCounts.{RegionCounts}
use Rattle.summary.proofs.Lemmas.RegionPlaces.{data-le, dead-next}
use Rattle.summary.proofs.Lemmas.Prefix.{greatest-le, prefix-allowed, prefix-refused}
use Rattle.summary.proofs.plan.region_places.prefix_end.Goals as goal
use Rattle.summary.proofs.plan.region_places.prefix_end.Goals.{then-dead-allowance, else-dead-allowance}

in_range : (r e n m heap : ℕ) → 0 < n → n ≡ m → r < e / n → e ≤ heap → r < heap / m
in_range r e n m heap some is l h =
    let up : e / n ≤ heap / n = le-div (e / n) heap n some (let whole : e / n * n + e % n ≡ e = div-add-mod' e n in omega arith) in
    let same : heap / n ≡ heap / m = ap (λ k. heap / k) is in
    omega arith

pub bounds-counts-r : goal.bounds-counts-r
bounds-counts-r c =
    let image = c.args.image.now in
    let n = c.region_words-region_words.ensures in
    let long = c.requires.number in
    let inside = in_range c.loop-r.r c.last_end.result c.region_words-region_words.result (region_words image) (heap_words image) n.some n.value c.loop-r-test.true c.last_end.ensures.inside in
    omega arith

pub overflow_sub-dead : goal.overflow_sub-dead
overflow_sub-dead c =
    let image = c.args.image.now in
    let r = c.loop-r.r in
    let n = c.region_words-region_words.ensures in
    let none : RegionCounts = record { partial = 0; live = 0 } in
    let inside = in_range r c.last_end.result c.region_words-region_words.result (region_words image) (heap_words image) n.some n.value c.loop-r-test.true c.last_end.ensures.inside in
    let is : c.live_words.result ≡ data_words image r = c.live_words.ensures ∙ ap (λ (k : RegionCounts). k.partial + k.live) (c.requires.each r none inside) in
    let few = data-le image n.valid r in
    let same = n.value in
    omega arith

pub loop-r-preserved : goal.loop-r-preserved
loop-r-preserved c =
    let image = c.args.image.now in
    let r = c.loop-r.r in
    let n = c.region_words-region_words.ensures in
    let none : RegionCounts = record { partial = 0; live = 0 } in
    let inside = in_range r c.last_end.result c.region_words-region_words.result (region_words image) (heap_words image) n.some n.value c.loop-r-test.true c.last_end.ensures.inside in
    let is : c.live_words.result ≡ data_words image r = c.live_words.ensures ∙ ap (λ (k : RegionCounts). k.partial + k.live) (c.requires.each r none inside) in
    let some : c.region_words-region_words.result ≡ region_words image = n.value in
    let now : ℕ = c.loop-r.dead + (c.region_words-region_words.result - c.live_words.result) in
    let dead : now ≡ dead_words_below image ((r + 1) * region_words image) =
    ap (λ m. c.loop-r.dead + (m - c.live_words.result)) some
    ∙ ap (λ m. c.loop-r.dead + (region_words image - m)) is
    ∙ dead-next image n.valid r c.loop-r.dead c.loop-r.invariant.1 in
    let low : c.loop-r.dead ≤ r * region_words image = c.loop-r.invariant.2 in
    let whole : (r + 1) * region_words image ≡ r * region_words image + region_words image = omega arith in
    let few : now ≤ (r + 1) * region_words image = omega arith in
    elim c.if-dead-allowance.branch [
      | then-dead-allowance w ↦ rw w.regions-is (prefix-allowed image r now dead (omega arith), dead, few)
      | else-dead-allowance w ↦ rw w.regions-is (c.loop-r.invariant.0 ∙ prefix-refused image r now dead (omega arith), dead, few)
    ]

pub overflow_mul-result : goal.overflow_mul-result
overflow_mul-result c =
    let e = c.last_end.result in
    let n = c.region_words-region_words.result in
    let up = greatest-le (is_allowed c.args.image.now) c.loop-r.r in
    let same = c.loop-r.invariant.0 in
    let last : c.loop-r.r ≤ e / n = c.loop-r.auto.r-end in
    let found : c.loop-r.regions ≤ e / n = omega arith in
    let product : c.loop-r.regions * n ≤ e / n * n = mul-le c.loop-r.regions n (e / n) n found (omega arith) in
    let whole : e / n * n + e % n ≡ e = div-add-mod' e n in
    let fits : e < 2 ^ 64 = c.last_end.type_inv in
    omega arith

pub returns-clause-value : goal.returns-clause-value
returns-clause-value c =
    let image = c.args.image.now in
    let e = c.last_end.result in
    let n = c.region_words-region_words.result in
    let at : c.loop-r.r ≡ e / n = let up = c.loop-r.auto.r-end in let down = c.loop-r-test.false in omega arith in
    ap (λ m. m * n) (c.loop-r.invariant.0 ∙ ap (greatest (is_allowed image)) at)
    ∙ ap (λ m. greatest (is_allowed image) (m / n) * n) c.last_end.ensures.value
    ∙ ap (λ m. greatest (is_allowed image) (last_end image / m) * m) c.region_words-region_words.ensures.value
