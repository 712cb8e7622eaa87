use Rattle.std.proofs.Common.{◌≡◌, ◌+◌, ◌-◌, ◌*◌, ◌/◌, ◌^◌, ◌≤◌, ◌<◌, ℕ, List, length, set, replicate, inl, inr, refl, sym, ◌∙◌, ap, subst, arith, true, false, length-set}
use Rattle.std.proofs.lemmas.Bool.{cases_eq, cases_lt}
use Rattle.object_heap.specs.Header.{filler_header}
use Rattle.object_heap.specs.HeapImage.{HeapImage, HasLiveList, word_at, is_live_word}
use Rattle.summary.specs.NewAddresses.{prefix_end}
use Rattle.summary.specs.Fillers.{filler_limit, may_begin_filler}
use Rattle.raw_region.specs.Region.{with_words}
use Rattle.fill.specs.WordBlocks.{IsSplitAt}
use Rattle.fill.specs.CopiedWords.{copied_word}
use Rattle.fill.proofs.Lemmas.Writing.{split_set}
use Rattle.fill.proofs.Lemmas.Gaps.{region_in_stride, copied-first, copied-rest, copied-behind, split_zero}
use Rattle.fill.proofs.region.in_prefix.InPrefix.write_gap.Goals as goal

-- words that are dead up to an address and from there on are dead
dead_to_end : (image : HeapImage) (at stop end : ℕ) → ((q : ℕ) → at ≤ q → q < stop → is_live_word image q ≡ false) → ((q : ℕ) → stop ≤ q → q < end → is_live_word image q ≡ false)
    → (q : ℕ) → at ≤ q → q < end → is_live_word image q ≡ false
dead_to_end image at stop end below above q l m = elim (cases_lt q stop) [
  | inl less ↦ below q l less
  | inr more ↦ above q more m
]

-- a part of a region ends within the stride in which it begins
near_end : (image : HeapImage) (log r start end at stop : ℕ) → log ≡ image.region_log → log ≤ 20 → start ≡ r * 2 ^ image.region_log → end ≡ r * 2 ^ image.region_log + 2 ^ image.region_log → start ≤ at → at < stop → stop ≤ end → stop ≤ (at / 2147483648 + 1) * 2147483648
near_end image log r start end at stop e small first last low less high =
    let near = region_in_stride image.region_log r at (omega arith) (omega arith) (omega arith) in
    omega arith

pub overflow_cast-end : goal.overflow_cast-end
overflow_cast-end c =
    let near = c.filler_end-end.ensures.near in
    omega arith

pub returns-then-may_begin_filler : goal.returns-then-may_begin_filler
returns-then-may_begin_filler c =
    let image : HeapImage = c.args.self.now.site.guide.now in
    let sound : HasLiveList image = c.image_is_valid.ensures.live_list in
    let r = c.requires in
    let start : ℕ = c.args.self.now.site.span.start in
    let at : ℕ = c.args.at in
    let stop : ℕ = c.args.stop in
    let xs : List ℕ = c.args.words.now in
    let w : ℕ = c.filler.result in
    let low : start ≤ at = r.low in
    let less : at < stop = omega arith in
    let end : ℕ = c.filler_end-end.result in
    let part : stop ≤ end = c.filler_end-end.ensures.after in
    let limit : end ≤ filler_limit image at = c.filler_end-end.ensures.inside in
    let up : end ≤ prefix_end image = omega arith in
    let near : end ≤ (at / 2147483648 + 1) * 2147483648 = omega arith in
    let dead = dead_to_end image at stop end r.dead c.filler_end-end.ensures.dead in
    let high : stop ≤ start + length xs = omega (arith, r.high, r.block, c.args.self.now.site.start, c.args.self.now.site.end) in
    let begins : may_begin_filler image at ≡ true = sym c.may_begin_filler.ensures ∙ c.if-may_begin_filler.true in
    let header : copied_word image at ≡ filler_header (end - at) = copied-first c.plan_laws.ensures image sound at end (omega arith) limit dead c.filler_end-end.ensures.live begins in
    let one = split_set (copied_word image) (word_at image) start xs at w r.split low (omega arith) (c.filler.ensures ∙ sym header) in
    let long = length-set xs (at - start) w in
    let two = split_zero c.plan_laws.ensures image sound start (set xs (at - start) w) (at + 1) (stop - at - 1) one (omega arith) (omega arith) (λ q l m. copied-behind c.plan_laws.ensures image sound at end q up near dead (omega arith) (omega arith)) in
    let i : at + 1 - start ≡ at - start + 1 = omega arith in
    let p : at + 1 + (stop - at - 1) ≡ stop = omega arith in
    let now = subst (λ (ys : List ℕ). IsSplitAt (copied_word image) (word_at image) start ys stop) (sym (c.fill.ensures.value ∙ ap (λ (t : List ℕ). with_words t (c.args.at - c.args.self.now.site.span.start + 1) (replicate (c.args.stop - c.args.at - 1) 0)) c.set.ensures.value))
    (subst (λ (j : ℕ). IsSplitAt (copied_word image) (word_at image) start (with_words (set xs (at - start) w) j (replicate (stop - at - 1) 0)) stop) i
    (subst (IsSplitAt (copied_word image) (word_at image) start (with_words (set xs (at - start) w) (at + 1 - start) (replicate (stop - at - 1) 0))) p two)) in
    record { same_length = c.fill.ensures.same_length ∙ c.set.ensures.same_length; now = now }

pub returns-else-may_begin_filler : goal.returns-else-may_begin_filler
returns-else-may_begin_filler c =
    let image : HeapImage = c.args.self.now.site.guide.now in
    let sound : HasLiveList image = c.image_is_valid.ensures.live_list in
    let r = c.requires in
    let start : ℕ = c.args.self.now.site.span.start in
    let at : ℕ = c.args.at in
    let stop : ℕ = c.args.stop in
    let xs : List ℕ = c.args.words.now in
    let low : start ≤ at = r.low in
    let less : at < stop = omega arith in
    let up : stop ≤ prefix_end image = omega (arith, r.high, c.args.self.now.site.end, c.plan_laws.ensures.prefix_region image c.args.self.now.site.region c.args.self.now.in_prefix) in
    let high : stop ≤ start + length xs = omega (arith, r.high, r.block, c.args.self.now.site.start, c.args.self.now.site.end) in
    let near = near_end image image.region_log c.args.self.now.site.region start c.args.self.now.site.span.end at stop refl c.image_is_valid.ensures.limits.region_log_high c.args.self.now.site.start c.args.self.now.site.end low less r.high in
    let rest : may_begin_filler image at ≡ false = sym c.may_begin_filler.ensures ∙ c.if-may_begin_filler.false in
    let zeros = λ (q : ℕ) (l : at ≤ q) (m : q < at + (stop - at)). (
    let out : copied_word image q ≡ 0 = elim (cases_eq q at) [
      | inl same ↦ ap (copied_word image) same ∙ copied-rest c.plan_laws.ensures image sound at (omega arith) (r.dead at (omega arith) (omega arith)) rest
      | inr other ↦ copied-behind c.plan_laws.ensures image sound at stop q up near r.dead (omega arith) (omega arith)
    ] in out) in
    let two = split_zero c.plan_laws.ensures image sound start xs at (stop - at) r.split low (omega arith) zeros in
    let p : at + (stop - at) ≡ stop = omega arith in
    let now = subst (λ (ys : List ℕ). IsSplitAt (copied_word image) (word_at image) start ys stop) (sym c.fill-else-may_begin_filler.ensures.value)
    (subst (IsSplitAt (copied_word image) (word_at image) start (with_words xs (at - start) (replicate (stop - at) 0))) p two) in
    record { same_length = c.fill-else-may_begin_filler.ensures.same_length; now = now }

pub may_begin_filler-requires : goal.may_begin_filler-requires
may_begin_filler-requires c =
    let low = c.plan_laws.ensures.prefix_end-le c.args.self.now.site.guide.now c.image_is_valid.ensures.live_list in
    omega (arith, c.args.self.now.site.end, c.plan_laws.ensures.prefix_region c.args.self.now.site.guide.now c.args.self.now.site.region c.args.self.now.in_prefix, c.requires.ordered, c.requires.high)

pub returns-then-at-stop : goal.returns-then-at-stop
returns-then-at-stop c =
    let image : HeapImage = c.args.self.now.site.guide.now in
    let same : c.args.at ≡ c.args.stop = omega arith in
    record { same_length = refl; now = subst (λ (p : ℕ). IsSplitAt (copied_word image) (word_at image) c.args.self.now.site.span.start c.args.words.now p) same c.requires.split }

pub filler_end-end-requires-clause-below : goal.filler_end-end-requires-clause-below
filler_end-end-requires-clause-below c =
    let site = c.args.self.now.site in
    omega (arith, site.end, c.plan_laws.ensures.prefix_region site.guide.now site.region c.args.self.now.in_prefix, c.requires.ordered, c.requires.high)

pub filler_end-end-requires-clause-reached : goal.filler_end-end-requires-clause-reached
filler_end-end-requires-clause-reached c =
    let site = c.args.self.now.site in
    let image : HeapImage = site.guide.now in
    let less : c.args.at < c.args.stop = omega arith in
    let near = near_end image image.region_log site.region site.span.start site.span.end c.args.at c.args.stop refl c.image_is_valid.ensures.limits.region_log_high site.start site.end c.requires.low less c.requires.high in
    omega (arith, near, site.end, c.plan_laws.ensures.prefix_region site.guide.now site.region c.args.self.now.in_prefix, c.requires.high)
