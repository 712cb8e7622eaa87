use Rattle.std.proofs.Common.{◌≡◌, ◌+◌, ◌-◌, ◌*◌, ◌/◌, ◌%◌, ◌^◌, ◌<◌, ◌≤◌, ℕ, List, [], length, get_or, set, map, min, true, sym, ◌∙◌, ap, subst, arith, bit_and}
use Rattle.std.specs.List.{concat}
use Rattle.std.proofs.lemmas.List.{get_or_default, length-map}
use Rattle.std.proofs.lemmas.Nat.{mod_below, pow_pos, and_mask}
use Rattle.std.proofs.Math.Nat.{div-add-mod'}
use Rattle.raw_region.specs.Region.{with_words, part}
use Rattle.object_heap.specs.HeapImage.{HeapImage, region_words, is_null_or_live}
use Rattle.summary.specs.Compaction.{redirected}
use Rattle.fill.proofs.Lemmas.Blocks.{block_below, concat-written, concat-part, same-set}
use Rattle.fill.proofs.Lemmas.Writing.{length-part, length-with_words, get_or-part}
use Rattle.fill.proofs.cleanup.heap.redirect_within.Goals as goal
use Rattle.fill.proofs.cleanup.heap.redirect_within.Goals.{After-region_log, After-min-n, After-redirect}

-- the region of the first reference
module _ (c : After-region_log) where
  abbrev image : HeapImage
  image = c.args.plan.now

  abbrev r : ℕ
  r = region_words image

  abbrev i : ℕ
  i = c.args.at / r

  some : 0 < r
  some = pow_pos image.region_log

  index : c.args.at / 2 ^ c.region_log.result ≡ i
  index = ap (λ k. c.args.at / 2 ^ k) c.region_log.ensures.value

  below : i < length c.args.regions.now
  below = let first = c.requires.some in let last = c.requires.inside in block_below r some c.args.regions.now c.requires.heap.whole c.args.at (omega arith)

pub bounds-regions-at : goal.bounds-regions-at
bounds-regions-at c = subst (λ (k : ℕ). k < length c.args.regions.now) (sym (index c)) (below c)

-- how many references lie in it
module _ (c : After-min-n) where
  abbrev at : ℕ
  at = c.args.at

  abbrev n : ℕ
  n = c.min-n.result

  abbrev R : ℕ
  R = region_words c.args.plan.now

  abbrev j : ℕ
  j = at % R

  abbrev block : List ℕ
  block = get_or c.args.regions.now (at / R) []

  place : bit_and at (c.region_words-size.result - 1) ≡ j
  place = ap (λ s. bit_and at (s - 1)) c.region_words-size.ensures.value ∙ and_mask at c.args.plan.now.region_log

  is_block : get_or c.args.regions.now (at / 2 ^ c.region_log.result) c.index-regions-at.result ≡ block
  is_block =
      ap (λ k. get_or c.args.regions.now k c.index-regions-at.result) (index c.before.before)
      ∙ get_or_default c.args.regions.now (at / R) c.index-regions-at.result [] (below c.before.before)

  long : length block ≡ R
  long = c.requires.heap.whole (at / R) [] (below c.before.before)

  fits : (j + n ≤ R) × (0 < n) × (at + n ≤ c.args.end)
  fits =
      let small : j < R = mod_below at R (some c.before.before) in
      let size : c.region_words-size.result ≡ R = c.region_words-size.ensures.value in
      let is : n ≡ min (c.args.end - at) (c.region_words-size.result - bit_and at (c.region_words-size.result - 1)) = c.min-n.ensures in
      let here = place in
      let first = c.requires.some in
      (omega arith, omega arith, omega arith)

  whole : at / R * R + j ≡ at
  whole = div-add-mod' at R

  old : part (concat c.args.regions.now) at n ≡ part block j n
  old =
      ap (λ k. part (concat c.args.regions.now) k n) (sym whole)
      ∙ concat-part R c.args.regions.now c.requires.heap.whole (at / R) j n (below c.before.before) fits.0

pub redirect-requires-clause-inside : goal.redirect-requires-clause-inside
redirect-requires-clause-inside c =
    let here = place c in
    let all = ap length (is_block c) ∙ long c in
    let end = (fits c).0 in
    omega arith

pub redirect-requires-clause-sound : goal.redirect-requires-clause-sound
redirect-requires-clause-sound c = λ k d l.
    let all : List ℕ = concat c.args.regions.now in
    let n : ℕ = c.min-n.result in
    let is : part (get_or c.args.regions.now (c.args.at / 2 ^ c.region_log.result) c.index-regions-at.result) (bit_and c.args.at (c.region_words-size.result - 1)) n ≡ part all c.args.at n
    = ap (λ b. part b (bit_and c.args.at (c.region_words-size.result - 1)) n) (is_block c) ∙ ap (λ p. part (block c) p n) (place c) ∙ sym (old c) in
    let last = c.requires.inside in
    let end = (fits c).2 in
    let count : length (part all c.args.at n) ≡ n = length-part all c.args.at n (omega arith) in
    let same : length (part (get_or c.args.regions.now (c.args.at / 2 ^ c.region_log.result) c.index-regions-at.result) (bit_and c.args.at (c.region_words-size.result - 1)) n) ≡ n = ap length is ∙ count in
    let few : k < n = omega arith in
    subst (λ (w : ℕ). is_null_or_live c.args.plan.now w ≡ true)
    (sym (ap (λ ws. get_or ws k d) is ∙ get_or_default (part all c.args.at n) k d 0 (omega arith) ∙ get_or-part all c.args.at n k few))
    (c.requires.sound (c.args.at + k) (omega arith) (omega arith))

joined : (c : After-redirect) → concat (set c.args.regions.now (c.args.at / 2 ^ c.region_log.result) c.redirect.new.region)
    ≡ with_words (concat c.args.regions.now) c.args.at (map (redirected c.args.plan.now) (part (concat c.args.regions.now) c.args.at c.min-n.result))
joined c =
    let here : After-min-n = c.before in
    let f : ℕ → ℕ = redirected c.args.plan.now in
    let n : ℕ = c.min-n.result in
    let b : List ℕ = block here in
    let p : ℕ = j here in
    let at : ℕ = c.args.at in
    let all : List ℕ = concat c.args.regions.now in
    let r : ℕ = region_words c.args.plan.now in
    let count = length-map (part b p n) f in
    let long : length b ≡ r = long here in
    let end : p + n ≤ r = (fits here).0 in
    let few : length (part b p n) ≡ n = length-part b p n (omega arith) in
    ap (λ k. concat (set c.args.regions.now k c.redirect.new.region)) (index here.before.before)
    ∙ ap (λ ws. concat (set c.args.regions.now (at / r) ws))
    (c.redirect.ensures.value
    ∙ ap (λ ws. with_words ws (bit_and at (c.region_words-size.result - 1)) (map f (part ws (bit_and at (c.region_words-size.result - 1)) n))) (is_block here)
    ∙ ap (λ q. with_words b q (map f (part b q n))) (place here))
    ∙ concat-written r c.args.regions.now c.requires.heap.whole (at / r) p (map f (part b p n)) (below here.before.before) (omega arith)
    ∙ ap (λ q. with_words all q (map f (part b p n))) (whole here)
    ∙ ap (λ ws. with_words all at (map f ws)) (sym (old here))

pub returns-clause-heap : goal.returns-clause-heap
returns-clause-heap c =
    let here : After-min-n = c.before in
    let all : List ℕ = concat c.args.regions.now in
    let n : ℕ = c.min-n.result in
    let ys : List ℕ = map (redirected c.args.plan.now) (part all c.args.at n) in
    let last = c.requires.inside in
    let end = (fits here).2 in
    let few : length ys ≡ n = length-map (part all c.args.at n) (redirected c.args.plan.now) ∙ length-part all c.args.at n (omega arith) in
    let same = ap length (joined c) ∙ length-with_words all ys c.args.at (omega arith) in
    record {
      log = c.requires.heap.log;
      whole = same-set (region_words c.args.plan.now) c.args.regions.now c.requires.heap.whole (c.args.at / 2 ^ c.region_log.result) c.redirect.new.region (c.redirect.ensures.same_length ∙ ap length (is_block here) ∙ long here);
      few = subst (λ (k : ℕ). k ≤ 68719476736) (sym same) c.requires.heap.few;
    }

pub returns-clause-value : goal.returns-clause-value
returns-clause-value c =
    let n : ℕ = c.min-n.result in
    let is : n ≡ c.args.at + n - c.args.at = omega arith in
    joined c ∙ ap (λ k. with_words (concat c.args.regions.now) c.args.at (map (redirected c.args.plan.now) (part (concat c.args.regions.now) c.args.at k))) is
