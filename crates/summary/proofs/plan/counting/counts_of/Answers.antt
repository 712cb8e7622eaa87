use Rattle.std.proofs.Common.{◌≡◌, ◌+◌, ◌*◌, ℕ, refl, ap, ◌∙◌, arith}
use Rattle.object_heap.specs.HeapImage.{HeapImage, start_of, region_words, live_words}
use Rattle.summary.specs.RegionData.{partial_words, own_words}
use Rattle.summary.proofs.Lemmas.OwnStarts.{own_start-partial, own_start-own}
use Rattle.summary.proofs.Lemmas.Regions.{data-le}
use Rattle.summary.proofs.plan.counting.counts_of.Goals as goal

-- the live words between these two addresses
between : (image other : HeapImage) (n a b c d : ℕ) → n ≡ live_words other a b → other ≡ image → a ≡ c → b ≡ d → n ≡ live_words image c d
between image other n a b c d is same e f = is ∙ ap (λ i. live_words i a b) same ∙ ap (λ k. live_words image k b) e ∙ ap (live_words image c) f

pub overflow_cast-result : goal.overflow_cast-result
overflow_cast-result c =
    let image = c.args.image.now in
    let r = c.args.r in
    let sound = c.region_words-region_words.ensures.valid.live_list in
    let n : ℕ = c.region_words-region_words.result in
    let at : c.from.result * n ≡ start_of image r = ap (λ m. m * n) c.from.ensures ∙ ap (λ m. r * m) c.region_words-region_words.ensures.value in
    let is = between image c.args.marks.now c.live_words.result (c.from.result * n) c.args.own_start (start_of image r) c.args.own_start c.live_words.ensures c.requires.same at refl ∙ own_start-partial image sound r c.args.own_start c.requires.own_start in
    let few = data-le image sound r in
    let words = c.region_words-region_words.ensures.value in
    let small = c.region_words-region_words.ensures.few in
    omega arith

pub overflow_cast-result-2 : goal.overflow_cast-result-2
overflow_cast-result-2 c =
    let image = c.args.image.now in
    let r = c.args.r in
    let sound = c.region_words-region_words.ensures.valid.live_list in
    let n : ℕ = c.region_words-region_words.result in
    let words = c.region_words-region_words.ensures.value in
    let at : c.from.result * n ≡ start_of image r = ap (λ m. m * n) c.from.ensures ∙ ap (λ m. r * m) words in
    let end : c.from.result * n + n ≡ start_of image r + region_words image = omega arith in
    let is = between image c.args.marks.now c.live_words-2.result c.args.own_start (c.from.result * n + n) c.args.own_start (start_of image r + region_words image) c.live_words-2.ensures c.requires.same refl end ∙ own_start-own image sound r c.args.own_start c.requires.own_start in
    let few = data-le image sound r in
    let small = c.region_words-region_words.ensures.few in
    omega arith

pub returns : goal.returns
returns c =
    let image = c.args.image.now in
    let r = c.args.r in
    let sound = c.region_words-region_words.ensures.valid.live_list in
    let n : ℕ = c.region_words-region_words.result in
    let words = c.region_words-region_words.ensures.value in
    let at : c.from.result * n ≡ start_of image r = ap (λ m. m * n) c.from.ensures ∙ ap (λ m. r * m) words in
    let end : c.from.result * n + n ≡ start_of image r + region_words image = omega arith in
    let partial : c.live_words.result ≡ partial_words image r = between image c.args.marks.now c.live_words.result (c.from.result * n) c.args.own_start (start_of image r) c.args.own_start c.live_words.ensures c.requires.same at refl ∙ own_start-partial image sound r c.args.own_start c.requires.own_start in
    let own : c.live_words-2.result ≡ own_words image r = between image c.args.marks.now c.live_words-2.result c.args.own_start (c.from.result * n + n) c.args.own_start (start_of image r + region_words image) c.live_words-2.ensures c.requires.same refl end ∙ own_start-own image sound r c.args.own_start c.requires.own_start in
    ap (λ (m : ℕ). record { partial = m; live = c.live_words-2.result }) partial
    ∙ ap (λ (m : ℕ). record { partial = partial_words image r; live = m }) own
