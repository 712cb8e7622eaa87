use Rattle.std.proofs.Common.{◌≡◌, ◌+◌, ◌-◌, ◌≤◌, ◌<◌, ℕ, List, length, min, inl, inr, refl, sym, ◌∙◌, ap, subst, arith}
use Rattle.std.proofs.lemmas.Bool.{cases_lt}
use Rattle.object_heap.specs.HeapImage.{HeapImage, HasLiveList, region_words, start_of}
use Rattle.summary.specs.NewAddresses.{prefix_end}
use Rattle.summary.specs.WordMoves.{slid}
use Rattle.claim_board.specs.RegionBoards.{original_words}
use Rattle.fill.specs.WordBlocks.{IsSplitAt, Shows}
use Rattle.fill.specs.CopiedWords.{written_to}
use Rattle.fill.specs.SlidWords.{held_word, slid_word}
use Rattle.fill.specs.WrittenWords.{Becomes, IsCopied}
use Rattle.fill.specs.SourceRegions.{IsNextOtherSource}
use Rattle.fill.proofs.Lemmas.WrittenWords.{written_on, copied_from}
use Rattle.fill.proofs.Lemmas.Slides.{slid-past, slid-monotone, split_copy}
use Rattle.fill.proofs.Lemmas.WrittenTo.{source_behind, written_to-read, written_to-between, next_start}
use Rattle.fill.proofs.Lemmas.Held.{shows_held}
use Rattle.fill.proofs.Lemmas.Reaching.{written_to-more}
use Rattle.fill.proofs.region.after_prefix.AfterPrefix.copy_source.Goals as goal
use Rattle.fill.proofs.region.after_prefix.AfterPrefix.copy_source.Goals.{After-span-read}

-- the source, and how far the region is written before it
module _ (c : After-span-read) where
  abbrev image : HeapImage
  image = c.args.self.now.site.guide.now

  abbrev d : ℕ
  d = c.args.self.now.site.region

  abbrev s : ℕ
  s = c.args.s

  abbrev R : ℕ
  R = region_words image

  abbrev held : ℕ → List ℕ
  held = original_words c.args.self.now.board.now

  next : IsNextOtherSource image d c.requires.next.0 s
  next = c.requires.next.1

  before : IsCopied image held d c.requires.next.0 c.args.to c.args.words.now
  before = c.requires.next.2

  own : d < c.requires.next.0
  own = next.own

  ordered : c.requires.next.0 ≤ s
  ordered = next.ordered

  behind : prefix_end image ≤ start_of image s
  behind = source_behind image c.span-read.ensures.valid d s (omega (arith, own, ordered)) c.args.self.now.after_prefix

  place : c.args.to ≡ written_to image (start_of image d) (start_of image s)
  place = before.place ∙ written_to-between c.plan_laws.ensures image c.span-read.ensures.valid d c.requires.next.0 s c.args.self.now.after_prefix (omega (arith, own)) ordered (omega (arith, next.inside)) next.between

  on : (slid image (start_of image s) ≤ written_to image (start_of image d) (start_of image s)) × (written_to image (start_of image d) (start_of image s) ≤ slid image (start_of image s + R))
      × (written_to image (start_of image d) (start_of image s + R) ≡ min (start_of image d + R) (slid image (start_of image s + R)))
  on = written_to-read c.plan_laws.ensures image c.span-read.ensures.valid.live_list d s behind next.read

  -- the words that are read
  read_shows : Shows (held_word image held) c.span-read.result.start c.args.source.now
  read_shows = subst (λ (n : ℕ). Shows (held_word image held) n c.args.source.now) (sym c.span-read.ensures.start)
      (subst (λ (xs : List ℕ). Shows (held_word image held) (start_of image s) xs) (sym c.requires.source) (shows_held image held s (c.args.self.now.whole s next.inside)))

  read_long : length c.args.source.now ≡ R
  read_long = ap length c.requires.source ∙ c.args.self.now.whole s next.inside

  -- how far the region is written once the source is at its end, or the region
  abbrev IsWhole : ℕ → Type 0
  IsWhole to = to ≡ min c.args.self.now.site.span.end (slid image c.span-read.result.end)

  all_read : (from to : ℕ) → from ≤ c.span-read.result.end → c.span-read.result.end ≤ from → to ≡ slid image from → to ≤ c.args.self.now.site.span.end → IsWhole to
  all_read from to inside end place high =
      let last : from ≡ c.span-read.result.end = omega arith in
      let there : slid image from ≡ slid image c.span-read.result.end = ap (slid image) last in
      omega arith

  all_written : (from to : ℕ) → prefix_end image ≤ from → from ≤ c.span-read.result.end → to ≡ slid image from → to ≤ c.args.self.now.site.span.end → c.args.self.now.site.span.end ≤ to → IsWhole to
  all_written from to low inside place high end = let up = slid-monotone c.plan_laws.ensures image from c.span-read.result.end low inside in omega arith

  whole : (to : ℕ) → IsWhole to → to ≡ written_to image (start_of image d) (start_of image s + R)
  whole to end =
      end ∙ ap (λ m. min m (slid image c.span-read.result.end)) c.args.self.now.site.end ∙ ap (λ m. min (start_of image d + R) (slid image m)) c.span-read.ensures.end ∙ sym on.2

  reached : (to : ℕ) (after : List ℕ) → length after ≡ length c.args.words.now → IsSplitAt (slid_word image held) (held_word image held) c.args.self.now.site.span.start after to → IsWhole to
      → Becomes (IsCopied image held d (s + 1) to) c.args.words.now after
  reached to after same split end = copied_from image held d s c.args.self.now.site.span.start to c.args.words.now after c.args.self.now.site.start before.block same split (whole to end)

  more : (to : ℕ) → IsWhole to → (c.args.to ≤ to) × (to - c.args.to < 4294967296)
  more to end =
      written_to-more c.plan_laws.ensures image c.span-read.ensures.valid d c.requires.next.0 (s + 1) c.args.to to c.args.self.now.site.inside c.args.self.now.after_prefix (omega (arith, own)) (omega (arith, ordered)) before.place
      (whole to end ∙ ap (written_to image (start_of image d)) (next_start image s (s + 1) refl))

pub span-read-requires : goal.span-read-requires
span-read-requires c = c.requires.next.1.inside

pub first_from-from-requires-clause-region : goal.first_from-from-requires-clause-region
first_from-from-requires-clause-region c =
    let at = (goal.at.first_from-from-requires-clause-region c).After-span-read in
    record { inside = (next at).inside; after_prefix = behind at }

pub first_from-from-requires-clause-low : goal.first_from-from-requires-clause-low
first_from-from-requires-clause-low c =
    let at = (goal.at.first_from-from-requires-clause-low c).After-span-read in
    let image : HeapImage = c.args.self.now.site.guide.now in
    let low : slid image (start_of image c.args.s) ≤ written_to image (start_of image c.args.self.now.site.region) (start_of image c.args.s) = (on at).0 in
    omega (arith, place at)

pub first_from-from-requires-clause-high : goal.first_from-from-requires-clause-high
first_from-from-requires-clause-high c =
    let at = (goal.at.first_from-from-requires-clause-high c).After-span-read in
    let image : HeapImage = c.args.self.now.site.guide.now in
    let high : written_to image (start_of image c.args.self.now.site.region) (start_of image c.args.s) ≤ slid image (start_of image c.args.s + region_words image) = (on at).1 in
    omega (arith, place at)

pub loop-from-init : goal.loop-from-init
loop-from-init c =
    let at = (goal.at.loop-from-init c).After-span-read in
    let site = c.args.self.now.site in
    let image : HeapImage = site.guide.now in
    let from = c.first_from-from.ensures in
    let read = c.span-read.ensures in
    record {
      after = omega (arith, from.after, read.start);
      inside = omega (arith, from.inside, read.end);
      after_prefix = omega (arith, from.after, behind at);
      place = sym from.place;
      low = omega (arith, place at, site.start);
      high = omega (arith, place at, site.start, site.end);
      split = subst (λ (n : ℕ). IsSplitAt (slid_word image (held at)) (held_word image (held at)) n c.args.words.now c.args.to) (sym site.start) (before at).split;
      same_length = refl;
    }

pub copy_from-requires-clause-source : goal.copy_from-requires-clause-source
copy_from-requires-clause-source c =
    let r = c.next_run-run.ensures in
    let at = (goal.at.copy_from-requires-clause-source c).After-span-read in
    let n : c.min-n.result ≤ c.next_run-run.result.end - c.next_run-run.result.begin = omega arith in
    let up = r.within in
    let far = r.after in
    let low = c.loop-from.invariant.after in
    omega (arith, read_long at, c.span-read.ensures.start, c.span-read.ensures.end)

pub copy_from-requires-clause-room : goal.copy_from-requires-clause-room
copy_from-requires-clause-room c =
    let at = (goal.at.copy_from-requires-clause-room c).After-span-read in
    let site = c.args.self.now.site in
    let h = c.loop-from.invariant in
    let now : length c.loop-from.words ≡ region_words site.guide.now = h.same_length ∙ (before at).block in
    let n : c.min-n.result ≤ site.span.end - c.loop-from.to = omega arith in
    omega (arith, h.low, h.high, site.start, site.end)

pub loop-from-preserved : goal.loop-from-preserved
loop-from-preserved c =
    let at = (goal.at.loop-from-preserved c).After-span-read in
    let site = c.args.self.now.site in
    let image : HeapImage = site.guide.now in
    let sound : HasLiveList image = c.span-read.ensures.valid.live_list in
    let h = c.loop-from.invariant in
    let r = c.next_run-run.ensures in
    let n : ℕ = c.min-n.result in
    let a : ℕ = c.next_run-run.result.begin in
    let over : n ≤ c.next_run-run.result.end - a = omega arith in
    let fits : n ≤ site.span.end - c.loop-from.to = omega arith in
    let up : c.next_run-run.result.end ≤ c.span-read.result.end = r.within in
    let on : a ≤ c.next_run-run.result.end = r.ordered in
    let far : c.loop-from.from ≤ a = r.after in
    let live = λ (q : ℕ) (l : a ≤ q) (m : q < a + n). (let below : q < c.next_run-run.result.end = omega arith in r.live q l below) in
    let past = slid-past c.plan_laws.ensures image c.loop-from.from a n c.loop-from.to h.after_prefix far h.place r.dead live in
    let now = h.same_length ∙ (before at).block in
    let written = written_on (slid_word image (held at)) (held_word image (held at)) site.span.start (c.loop-from.to + n) c.args.words.now c.loop-from.words c.copy_from.new.self _ h.same_length c.copy_from.ensures.value c.copy_from.ensures.same_length
    (split_copy c.plan_laws.ensures image sound (held at) site.span.start c.loop-from.words c.span-read.result.start c.args.source.now a n c.loop-from.to h.split (read_shows at) (omega arith) past.0 live (omega arith)
    (omega (arith, now, site.start, site.end)) (omega arith) (omega (arith, read_long at, c.span-read.ensures.start, c.span-read.ensures.end))) in
    record {
      after = omega arith;
      inside = omega arith;
      after_prefix = omega arith;
      place = past.1;
      low = omega arith;
      high = omega arith;
      split = written.1;
      same_length = written.0;
    }

pub loop-from-smaller : goal.loop-from-smaller
loop-from-smaller c =
    let r = c.next_run-run.ensures in
    let a : ℕ = c.next_run-run.result.begin in
    let far : c.loop-from.from ≤ a = r.after in
    let on : a ≤ c.next_run-run.result.end = r.ordered in
    let up : c.next_run-run.result.end ≤ c.span-read.result.end = r.within in
    elim (cases_lt a c.span-read.result.end) [
      | inl less ↦ let some : a < c.next_run-run.result.end = r.some less in omega arith
      | inr more ↦ omega arith
    ]

pub returns-after-loop-from-clause-copied : goal.returns-after-loop-from-clause-copied
returns-after-loop-from-clause-copied c =
    let read = (goal.at.returns-after-loop-from-clause-copied c).After-span-read in
    let h = c.loop-from.invariant in
    reached read c.loop-from.to c.loop-from.words h.same_length h.split (all_read read c.loop-from.from c.loop-from.to h.inside (omega arith) h.place h.high)

pub returns-after-loop-from-clause-more : goal.returns-after-loop-from-clause-more
returns-after-loop-from-clause-more c =
    let read = (goal.at.returns-after-loop-from-clause-more c).After-span-read in
    let h = c.loop-from.invariant in
    more read c.loop-from.to (all_read read c.loop-from.from c.loop-from.to h.inside (omega arith) h.place h.high)

pub returns-else-to-write-clause-copied : goal.returns-else-to-write-clause-copied
returns-else-to-write-clause-copied c =
    let read = (goal.at.returns-else-to-write-clause-copied c).After-span-read in
    let h = c.loop-from.invariant in
    reached read c.loop-from.to c.loop-from.words h.same_length h.split (all_written read c.loop-from.from c.loop-from.to h.after_prefix h.inside h.place h.high (omega arith))

pub returns-else-to-write-clause-more : goal.returns-else-to-write-clause-more
returns-else-to-write-clause-more c =
    let read = (goal.at.returns-else-to-write-clause-more c).After-span-read in
    let h = c.loop-from.invariant in
    more read c.loop-from.to (all_written read c.loop-from.from c.loop-from.to h.after_prefix h.inside h.place h.high (omega arith))
