use Rattle.std.proofs.Common.{arith, ◌≤◌, ◌<◌, ◌^◌, ◌≡◌, ◌*◌, ◌/◌, ◌+◌, ◌%◌, ◌∙◌, ap, sym}
use Rattle.std.proofs.lemmas.Nat.{mul-le, div-add-mod'}
use Rattle.std.specs.Prelude.{count_by}
use Rattle.std.specs.List.{range_with_len}
use Rattle.object_heap.specs.HeapImage.{region_words, is_dead_word, last_end}
use Rattle.summary.specs.NewAddresses.{greatest, prefix_end, dead_words_below, is_allowed}
use Rattle.plain_compaction.proofs.Lemmas.Prefix.{greatest-le, dead-step, prefix-allowed, prefix-refused}
use Rattle.plain_compaction.proofs.plainly.prefix_end.Goals as goal
use Rattle.plain_compaction.proofs.plainly.prefix_end.Goals.{then-dead-allowance, else-dead-allowance}

pub loop-r-preserved : goal.loop-r-preserved
loop-r-preserved c =
    let image = c.args.image.now in
    let r = c.loop-r.r in
    let n = c.region_words-region_words.result in
    let is : n ≡ region_words image = c.region_words-region_words.ensures.value in
    let more : c.dead_words-dead.result ≡ count_by (is_dead_word image) (range_with_len (r * region_words image) (region_words image)) =
    c.dead_words-dead.ensures.value ∙ ap (λ m. count_by (is_dead_word image) (range_with_len (r * m) m)) is in
    let dead : c.loop-r.dead + c.dead_words-dead.result ≡ dead_words_below image ((r + 1) * region_words image) =
    ap (λ d. d + c.dead_words-dead.result) c.loop-r.invariant.1
    ∙ ap (λ d. dead_words_below image (r * region_words image) + d) more
    ∙ sym (dead-step image r) in
    let few : c.dead_words-dead.result ≤ n = c.dead_words-dead.ensures.few in
    let low : c.loop-r.dead ≤ r * region_words image = c.loop-r.invariant.2 in
    let whole : (r + 1) * region_words image ≡ r * region_words image + region_words image = omega arith in
    elim c.if-dead-allowance.branch [
      | then-dead-allowance w ↦ rw w.regions-is (prefix-allowed image r (c.loop-r.dead + c.dead_words-dead.result) dead (omega arith), dead, omega arith)
      | else-dead-allowance w ↦ rw w.regions-is (c.loop-r.invariant.0 ∙ prefix-refused image r (c.loop-r.dead + c.dead_words-dead.result) dead (omega arith), dead, omega arith)
    ]

pub overflow_mul-result : goal.overflow_mul-result
overflow_mul-result c =
    let e = c.last_end.result in
    let n = c.region_words-region_words.result in
    let up = greatest-le (is_allowed c.args.image.now) c.loop-r.r in
    let same = c.loop-r.invariant.0 in
    let last : c.loop-r.r ≤ e / n = c.loop-r.auto.r-end in
    let found : c.loop-r.regions ≤ e / n = omega arith in
    let product : c.loop-r.regions * n ≤ e / n * n = mul-le c.loop-r.regions n (e / n) n found (omega arith) in
    let whole : e / n * n + e % n ≡ e = div-add-mod' e n in
    let fits : e < 2 ^ 64 = c.last_end.type_inv in
    omega arith

pub returns : goal.returns
returns c =
    let image = c.args.image.now in
    let e = c.last_end.result in
    let n = c.region_words-region_words.result in
    let is : n ≡ region_words image = c.region_words-region_words.ensures.value in
    let valid = c.region_words-region_words.ensures.valid in
    let at : c.loop-r.r ≡ e / n = let up = c.loop-r.auto.r-end in let down = c.loop-r-test.false in omega arith in
    let exact : c.loop-r.regions * n ≡ prefix_end image =
    ap (λ m. m * n) (c.loop-r.invariant.0 ∙ ap (greatest (is_allowed image)) at)
    ∙ ap (λ m. greatest (is_allowed image) (m / n) * n) c.last_end.ensures
    ∙ ap (λ m. greatest (is_allowed image) (last_end image / m) * m) is in
    let low = c.plan_laws.ensures.prefix_end-le image valid.live_list in
    let few = valid.limits.few_words in
    record { exact = exact; small = omega arith }
