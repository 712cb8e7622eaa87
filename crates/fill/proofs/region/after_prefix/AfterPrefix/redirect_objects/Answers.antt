use Rattle.std.proofs.Common.{◌≡◌, ◌+◌, ◌-◌, ◌≤◌, ◌<◌, ℕ, length, true, refl, sym, ◌∙◌, subst, arith}
use Rattle.object_heap.specs.HeapImage.{HeapImage, start_of, region_words, region_count}
use Rattle.summary.specs.NewAddresses.{prefix_end, new_top}
use Rattle.summary.specs.WordMoves.{slid, reads}
use Rattle.summary.specs.Compaction.{moved_word}
use Rattle.fill.specs.WordBlocks.{IsSplitAt, Shows}
use Rattle.fill.specs.CopiedWords.{copied_word}
use Rattle.fill.specs.Objects.{IsBetween}
use Rattle.fill.proofs.Lemmas.WrittenTo.{source_place, source_behind, shows_block, next_start, reached-last}
use Rattle.fill.proofs.Lemmas.Redirects.{between-object}
use Rattle.fill.proofs.Lemmas.Steps.{next-place, region-first, region-none}
use Rattle.fill.proofs.region.after_prefix.AfterPrefix.redirect_objects.Goals as goal
use Rattle.fill.proofs.region.after_prefix.AfterPrefix.redirect_objects.Goals.{After-source-s}

module _ (c : After-source-s) where
  abbrev image : HeapImage
  image = c.args.self.now.site.guide.now

  abbrev d : ℕ
  d = c.args.self.now.site.region

  abbrev s : ℕ
  s = c.source-s.result

  -- the source of the region's first word
  on : (reads image d s ≡ true) × (d ≤ s) × (s < region_count image) × (slid image (start_of image s) ≤ start_of image d) × (start_of image d ≤ slid image (start_of image s + region_words image))
  on = source_place c.plan_laws.ensures image c.image_is_valid.ensures d s c.args.self.now.after_prefix c.args.self.now.site.to_fill c.source-s.ensures

  behind : prefix_end image ≤ start_of image s
  behind = source_behind image c.image_is_valid.ensures d s ((on).1) c.args.self.now.after_prefix

  -- all words for the region are copied
  shows : Shows (copied_word image) (start_of image d) c.args.words.now
  shows = subst (λ (n : ℕ). Shows (copied_word image) n c.args.words.now) c.args.self.now.site.start c.requires.copied

pub source-s-requires-clause-region : goal.source-s-requires-clause-region
source-s-requires-clause-region c = record { inside = c.args.self.now.site.inside; after_prefix = c.args.self.now.after_prefix }

pub source-s-requires-clause-to_fill : goal.source-s-requires-clause-to_fill
source-s-requires-clause-to_fill c = c.args.self.now.site.to_fill

pub first_from-first-requires-clause-region : goal.first_from-first-requires-clause-region
first_from-first-requires-clause-region c =
    let at = (goal.at.first_from-first-requires-clause-region c).After-source-s in
    record { inside = (on at).2; after_prefix = behind at }

pub first_from-first-requires-clause-low : goal.first_from-first-requires-clause-low
first_from-first-requires-clause-low c =
    let at = (goal.at.first_from-first-requires-clause-low c).After-source-s in
    let image : HeapImage = c.args.self.now.site.guide.now in
    let low : slid image (start_of image c.source-s.result) ≤ start_of image c.args.self.now.site.region = (on at).3 in
    omega (arith, c.args.self.now.site.start)

pub first_from-first-requires-clause-high : goal.first_from-first-requires-clause-high
first_from-first-requires-clause-high c =
    let at = (goal.at.first_from-first-requires-clause-high c).After-source-s in
    let image : HeapImage = c.args.self.now.site.guide.now in
    let high : start_of image c.args.self.now.site.region ≤ slid image (start_of image c.source-s.result + region_words image) = (on at).4 in
    omega (arith, c.args.self.now.site.start)

pub redirect_row-requires-clause-low : goal.redirect_row-requires-clause-low
redirect_row-requires-clause-low c =
    let image : HeapImage = c.args.self.now.site.guide.now in
    let up = next-place c.plan_laws.ensures image c.image_is_valid.ensures.live_list c.first_from-first.result c.in-Some.a c.in-Some.ensures.first in
    let first : slid image c.first_from-first.result ≡ c.args.self.now.site.span.start = c.first_from-first.ensures.place in
    omega (arith, c.new_address.ensures.value)

pub redirect_row-requires-clause-between : goal.redirect_row-requires-clause-between
redirect_row-requires-clause-between c =
    let image : HeapImage = c.args.self.now.site.guide.now in
    subst (IsBetween image) (sym c.new_address.ensures.value) (between-object c.plan_laws.ensures image c.image_is_valid.ensures.live_list c.in-Some.a c.in-Some.ensures.first.object)

pub redirect_row-requires-clause-block : goal.redirect_row-requires-clause-block
redirect_row-requires-clause-block c = c.requires.block

pub redirect_row-requires-clause-split : goal.redirect_row-requires-clause-split
redirect_row-requires-clause-split c =
    let at = (goal.at.redirect_row-requires-clause-split c).After-source-s in
    let site = c.args.self.now.site in
    let image : HeapImage = site.guide.now in
    let first : slid image c.first_from-first.result ≡ start_of image site.region = c.first_from-first.ensures.place ∙ site.start in
    subst (λ (n : ℕ). IsSplitAt (moved_word image) (copied_word image) n c.args.words.now c.new_address.result) (sym site.start)
    (subst (IsSplitAt (moved_word image) (copied_word image) (start_of image site.region) c.args.words.now) (sym c.new_address.ensures.value)
    (region-first c.plan_laws.ensures image c.image_is_valid.ensures.live_list site.region c.first_from-first.result c.in-Some.a c.args.words.now first c.in-Some.ensures.first (shows at)))

pub returns-in-Some : goal.returns-in-Some
returns-in-Some c =
    let site = c.args.self.now.site in
    let image : HeapImage = site.guide.now in
    let e = c.redirect_row.ensures in
    let block = e.same_length ∙ c.requires.block in
    let moved = subst (λ (n : ℕ). Shows (moved_word image) n c.redirect_row.new.words) site.start e.now in
    record { same_length = e.same_length; now = shows_block image c.image_is_valid.ensures (moved_word image) site.region c.redirect_row.new.words block moved }

pub returns-in_default : goal.returns-in_default
returns-in_default c =
    let at = (goal.at.returns-in_default c).After-source-s in
    let site = c.args.self.now.site in
    let image : HeapImage = site.guide.now in
    let d : ℕ = site.region in
    let valid = c.image_is_valid.ensures in
    let r = c.requires in
    let long = r.block in
    let first : slid image c.first_from-first.result ≡ start_of image d = c.first_from-first.ensures.place ∙ site.start in
    let own : d < c.args.from = r.own in
    let one : c.args.from ≡ c.args.from - 1 + 1 = omega arith in
    let end : start_of image c.args.from ≡ c.span-last.result.end = sym (c.span-last.ensures.end ∙ next_start image (c.args.from - 1) c.args.from one) in
    let reached = λ (p : ℕ) (l : start_of image d ≤ p) (m : p < start_of image d + length c.args.words.now) (n : p < new_top image).
    subst (λ (to : ℕ). p < slid image to) end (reached-last c.plan_laws.ensures image valid d c.args.from p c.args.self.now.after_prefix r.own r.within r.last l (omega (arith, m, long)) n) in
    record {
      same_length = refl;
      now = shows_block image valid (moved_word image) d c.args.words.now long
          (region-none c.plan_laws.ensures image valid.live_list d c.first_from-first.result c.span-last.result.end c.args.words.now first c.in_default.ensures.first reached (shows at));
    }
