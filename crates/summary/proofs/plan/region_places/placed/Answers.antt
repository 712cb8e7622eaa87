use Rattle.std.proofs.Common.{ℕ, ◌≡◌, ◌≤◌, ◌*◌, ◌+◌, ◌∙◌, ap, arith}
use Rattle.std.specs.Prelude.{None}
use Rattle.object_heap.specs.HeapImage.{start_of}
use Rattle.summary.specs.NewAddresses.{prefix_end}
use Rattle.summary.specs.RegionData.{readers_from, data_words}
use Rattle.summary.specs.declared.plan.region_counts.RegionCounts.{RegionCounts}
use Rattle.summary.proofs.Lemmas.RegionPlaces.{placed-prefix, placed-behind, destination-fits}
use Rattle.summary.proofs.plan.region_places.placed.Goals as goal

pub readers-requires : goal.readers-requires
readers-requires c =
    let image = c.args.image.now in
    let valid = c.region_words.ensures.valid in
    let at : c.args.r * c.region_words.result ≡ start_of image c.args.r = ap (λ n. c.args.r * n) c.region_words.ensures.value in
    let prefix = c.requires.prefix in
    let behind = c.if-start-prefix.false in
    let is : c.live_words.result ≡ data_words image c.args.r = c.live_words.ensures ∙ ap (λ (k : RegionCounts). k.partial + k.live) c.requires.counts in
    let to = c.requires.next (omega arith) in
    let fits = destination-fits image valid c.args.r c.requires.inside (omega arith) in
    let few = valid.limits.few_words in
    omega arith

pub returns-then-start-prefix : goal.returns-then-start-prefix
returns-then-start-prefix c =
    let image = c.args.image.now in
    let valid = c.region_words.ensures.valid in
    let at : c.args.r * c.region_words.result ≡ start_of image c.args.r = ap (λ n. c.args.r * n) c.region_words.ensures.value in
    let prefix = c.requires.prefix in
    let low = c.if-start-prefix.true in
    ap (λ (d : ℕ). record { partial = c.args.counts.partial; live = c.args.counts.live; destination = d; count = 0; source = None }) at
    ∙ ap (λ (k : RegionCounts). record { partial = k.partial; live = k.live; destination = start_of image c.args.r; count = 0; source = None }) c.requires.counts
    ∙ placed-prefix image valid c.args.r (omega arith)

pub returns-else-start-prefix : goal.returns-else-start-prefix
returns-else-start-prefix c =
    let image = c.args.image.now in
    let valid = c.region_words.ensures.valid in
    let at : c.args.r * c.region_words.result ≡ start_of image c.args.r = ap (λ n. c.args.r * n) c.region_words.ensures.value in
    let prefix = c.requires.prefix in
    let behind = c.if-start-prefix.false in
    let from : prefix_end image ≤ start_of image c.args.r = omega arith in
    let to = c.requires.next (omega arith) in
    let count = c.readers.ensures ∙ ap (readers_from image c.args.r c.args.next) (c.live_words.ensures ∙ ap (λ (k : RegionCounts). k.partial + k.live) c.requires.counts) in
    ap (λ (n : ℕ). record { partial = c.args.counts.partial; live = c.args.counts.live; destination = c.args.next; count = n; source = None }) count
    ∙ ap (λ (k : RegionCounts). record { partial = k.partial; live = k.live; destination = c.args.next; count = readers_from image c.args.r c.args.next (data_words image c.args.r); source = None }) c.requires.counts
    ∙ placed-behind image valid c.args.r c.args.next from to
