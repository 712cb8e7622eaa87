use Rattle.std.proofs.Common.{◌≡◌, ◌+◌, ◌-◌, ◌≤◌, ◌<◌, ℕ, List, length, min, true, false, refl, sym, ◌∙◌, ap, subst, arith}
use Rattle.object_heap.specs.HeapImage.{HeapImage, HasLiveList, region_words, start_of}
use Rattle.summary.specs.WordMoves.{slid, reads}
use Rattle.claim_board.specs.RegionBoards.{original_words}
use Rattle.fill.specs.WordBlocks.{IsSplitAt, Shows}
use Rattle.fill.specs.CopiedWords.{written_to}
use Rattle.fill.specs.SlidWords.{held_word, slid_word}
use Rattle.fill.specs.WrittenWords.{IsBlockOf}
use Rattle.fill.proofs.Lemmas.WrittenWords.{written_on, copied_from}
use Rattle.fill.proofs.Lemmas.Slides.{slid-past, split_slide}
use Rattle.fill.proofs.Lemmas.WrittenTo.{region_fits, written_to-own, written_to-read, written_to-skip}
use Rattle.fill.proofs.Lemmas.Held.{shows_held}
use Rattle.fill.proofs.Lemmas.Writing.{split_none}
use Rattle.fill.proofs.region.after_prefix.AfterPrefix.slide_own.Goals as goal
use Rattle.fill.proofs.region.after_prefix.AfterPrefix.slide_own.Goals.{After-image_is_valid}

-- the region, as it was at the start
module _ (c : After-image_is_valid) where
  abbrev image : HeapImage
  image = c.args.self.now.site.guide.now

  abbrev d : ℕ
  d = c.args.self.now.site.region

  abbrev start : ℕ
  start = c.args.self.now.site.span.start

  abbrev words : List ℕ
  words = c.args.words.now

  abbrev held : ℕ → List ℕ
  held = original_words c.args.self.now.board.now

  block : IsBlockOf image c.args.words.now
  block = ap length c.requires ∙ c.args.self.now.whole d c.args.self.now.site.inside

  shows : Shows (held_word image held) start words
  shows = subst (λ (n : ℕ). Shows (held_word image held) n words) (sym c.args.self.now.site.start)
      (subst (λ (xs : List ℕ). Shows (held_word image held) (start_of image d) xs) (sym c.requires) (shows_held image held d (c.args.self.now.whole d c.args.self.now.site.inside)))

  split : IsSplitAt (slid_word image held) (held_word image held) start words start
  split = split_none (slid_word image held) (held_word image held) start words shows

pub returns-then-not-reads_itself : goal.returns-then-not-reads_itself
returns-then-not-reads_itself c =
    let at = (goal.at.returns-then-not-reads_itself c).After-image_is_valid in
    let site = c.args.self.now.site in
    let image : HeapImage = site.guide.now in
    let valid = c.image_is_valid.ensures in
    let sound : HasLiveList image = valid.live_list in
    let d : ℕ = site.region in
    let behind = c.args.self.now.after_prefix in
    let unread : reads image d d ≡ false = sym c.reads_itself.ensures ∙ c.if-not-reads_itself.true in
    copied_from image (held at) d d site.span.start site.span.start c.args.words.now c.args.words.now site.start (block at) (refl) (split at)
    (site.start ∙ sym (written_to-own c.plan_laws.ensures image sound d) ∙ written_to-skip c.plan_laws.ensures image sound d d behind behind (region_fits image valid d site.inside) unread)

pub first_from-from-requires-clause-region : goal.first_from-from-requires-clause-region
first_from-from-requires-clause-region c = record { inside = c.args.self.now.site.inside; after_prefix = c.args.self.now.after_prefix }

pub first_from-from-requires-clause-low : goal.first_from-from-requires-clause-low
first_from-from-requires-clause-low c =
    let site = c.args.self.now.site in
    let down = c.plan_laws.ensures.slid-le site.guide.now (start_of site.guide.now site.region) in
    omega (arith, site.start)

pub first_from-from-requires-clause-high : goal.first_from-from-requires-clause-high
first_from-from-requires-clause-high c =
    let site = c.args.self.now.site in
    let image : HeapImage = site.guide.now in
    let sound : HasLiveList image = c.image_is_valid.ensures.live_list in
    let d : ℕ = site.region in
    let read : reads image d d ≡ true = sym c.reads_itself.ensures ∙ c.if-not-reads_itself.false in
    let on = written_to-read c.plan_laws.ensures image sound d d c.args.self.now.after_prefix read in
    let own = written_to-own c.plan_laws.ensures image sound d in
    let high : written_to image (start_of image d) (start_of image d) ≤ slid image (start_of image d + region_words image) = on.1 in
    omega (arith, site.start)

pub loop-from-init : goal.loop-from-init
loop-from-init c =
    let at = (goal.at.loop-from-init c).After-image_is_valid in
    let site = c.args.self.now.site in
    let from = c.first_from-from.ensures in
    let behind = c.args.self.now.after_prefix in
    record {
      after = omega (arith, from.after, site.start);
      inside = omega (arith, from.inside, site.end);
      after_prefix = omega (arith, from.after);
      place = sym from.place;
      low = omega arith;
      split = split at;
      same_length = refl;
    }

pub slide-requires-clause-downward : goal.slide-requires-clause-downward
slide-requires-clause-downward c =
    let image : HeapImage = c.args.self.now.site.guide.now in
    let down = c.plan_laws.ensures.slid-le image c.loop-from.from in
    let far : c.loop-from.from ≤ c.next_run-run.result.begin = c.next_run-run.ensures.after in
    let h : c.loop-from.to ≡ slid image c.loop-from.from = c.loop-from.invariant.place in
    omega arith

pub slide-requires-clause-source : goal.slide-requires-clause-source
slide-requires-clause-source c =
    let at = (goal.at.slide-requires-clause-source c).After-image_is_valid in
    let site = c.args.self.now.site in
    let h = c.loop-from.invariant in
    let r = c.next_run-run.ensures in
    let now : length c.loop-from.words ≡ region_words site.guide.now = h.same_length ∙ block at in
    let up : c.next_run-run.result.end ≤ site.span.end = r.within in
    let on : c.next_run-run.result.begin ≤ c.next_run-run.result.end = r.ordered in
    let far : c.loop-from.from ≤ c.next_run-run.result.begin = r.after in
    omega (arith, h.after, site.start, site.end)

pub loop-from-preserved : goal.loop-from-preserved
loop-from-preserved c =
    let at = (goal.at.loop-from-preserved c).After-image_is_valid in
    let site = c.args.self.now.site in
    let image : HeapImage = site.guide.now in
    let sound : HasLiveList image = c.image_is_valid.ensures.live_list in
    let h = c.loop-from.invariant in
    let r = c.next_run-run.ensures in
    let a : ℕ = c.next_run-run.result.begin in
    let n : ℕ = c.next_run-run.result.end - a in
    let up : c.next_run-run.result.end ≤ site.span.end = r.within in
    let on : a ≤ c.next_run-run.result.end = r.ordered in
    let far : c.loop-from.from ≤ a = r.after in
    let live = λ (q : ℕ) (l : a ≤ q) (m : q < a + n). (let below : q < c.next_run-run.result.end = omega arith in r.live q l below) in
    let whole : a + n ≡ c.next_run-run.result.end = omega arith in
    let past = slid-past c.plan_laws.ensures image c.loop-from.from a n c.loop-from.to h.after_prefix far h.place r.dead live in
    let down = c.plan_laws.ensures.slid-le image a in
    let now = h.same_length ∙ (block at) in
    let written = written_on (slid_word image (held at)) (held_word image (held at)) site.span.start (c.loop-from.to + n) c.args.words.now c.loop-from.words c.slide.new.self _ h.same_length c.slide.ensures.value c.slide.ensures.same_length
    (split_slide c.plan_laws.ensures image sound (held at) site.span.start c.loop-from.words a n c.loop-from.to h.split (omega arith) past.0 live (omega arith) (omega (arith, now, site.start, site.end))) in
    record {
      after = omega arith;
      inside = omega arith;
      after_prefix = omega arith;
      place = past.1 ∙ ap (slid image) whole;
      low = omega arith;
      split = written.1;
      same_length = written.0;
    }

pub returns : goal.returns
returns c =
    let at = (goal.at.returns c).After-image_is_valid in
    let site = c.args.self.now.site in
    let image : HeapImage = site.guide.now in
    let sound : HasLiveList image = c.image_is_valid.ensures.live_list in
    let d : ℕ = site.region in
    let h = c.loop-from.invariant in
    let read : reads image d d ≡ true = sym c.reads_itself.ensures ∙ c.if-not-reads_itself.false in
    let on = written_to-read c.plan_laws.ensures image sound d d c.args.self.now.after_prefix read in
    let new : written_to image (start_of image d) (start_of image d + region_words image) ≡ min (start_of image d + region_words image) (slid image (start_of image d + region_words image)) = on.2 in
    let down = c.plan_laws.ensures.slid-le image (start_of image d + region_words image) in
    let past : site.span.end ≤ c.loop-from.from = c.loop-from-test.false in
    let last : c.loop-from.from ≡ start_of image d + region_words image = omega (arith, h.inside, site.end) in
    let end : c.loop-from.to ≡ slid image (start_of image d + region_words image) = h.place ∙ ap (slid image) last in
    let whole : c.loop-from.to ≡ written_to image (start_of image d) (start_of image d + region_words image) = omega arith in
    copied_from image (held at) d d site.span.start c.loop-from.to c.args.words.now c.loop-from.words site.start (block at) h.same_length h.split whole
