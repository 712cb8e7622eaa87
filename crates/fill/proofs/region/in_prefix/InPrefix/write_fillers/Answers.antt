use Rattle.std.proofs.Common.{◌≡◌, ◌+◌, ◌-◌, ◌≤◌, ◌<◌, ℕ, List, inl, inr, refl, sym, ◌∙◌, subst, arith}
use Rattle.std.proofs.lemmas.Bool.{cases_lt}
use Rattle.object_heap.specs.HeapImage.{HeapImage, HasLiveList, region_words, start_of, word_at}
use Rattle.fill.specs.WordBlocks.{Shows}
use Rattle.fill.specs.CopiedWords.{copied_word}
use Rattle.fill.proofs.Lemmas.WrittenWords.{unwritten_block}
use Rattle.fill.proofs.Lemmas.Writing.{split_none, split_all}
use Rattle.fill.proofs.Lemmas.WrittenTo.{shows_start}
use Rattle.fill.proofs.Lemmas.Gaps.{split_stays}
use Rattle.fill.proofs.region.in_prefix.InPrefix.write_fillers.Goals as goal

pub loop-at-init : goal.loop-at-init
loop-at-init c =
    let image : HeapImage = c.args.self.now.site.guide.now in
    let at : c.args.self.now.site.span.start ≡ start_of image c.args.self.now.site.region = c.args.self.now.site.start in
    let inside = c.args.self.now.site.inside in
    let shows : Shows (word_at image) (c.args.self.now.site.span.start) c.args.words.now =
    subst (λ (m : ℕ). Shows (word_at image) m c.args.words.now) (sym at)
    (subst (λ (xs : List ℕ). Shows (word_at image) (start_of image c.args.self.now.site.region) xs) (sym c.requires) (shows_start image c.image_is_valid.ensures c.args.self.now.site.region inside)) in
    record {
      low = omega arith;
      high = omega arith;
      split = split_none (copied_word image) (word_at image) (c.args.self.now.site.span.start) c.args.words.now shows;
      same_length = refl;
    }

pub write_gap-requires-clause-block : goal.write_gap-requires-clause-block
write_gap-requires-clause-block c =
    let site = c.args.self.now.site in
    c.loop-at.invariant.same_length ∙ (unwritten_block site.guide.now site.region c.args.words.now c.image_is_valid.ensures site.inside c.requires)

pub loop-at-smaller : goal.loop-at-smaller
loop-at-smaller c =
    let r = c.next_run-run.ensures in
    let on : c.loop-at.at ≤ c.next_run-run.result.begin = r.after in
    let up : c.next_run-run.result.begin ≤ c.next_run-run.result.end = r.ordered in
    let within : c.next_run-run.result.end ≤ c.args.self.now.site.span.end = r.within in
    let test : c.loop-at.at < c.args.self.now.site.span.end = c.loop-at-test.true in
    let more : c.loop-at.at < c.next_run-run.result.end = elim (cases_lt c.next_run-run.result.begin c.args.self.now.site.span.end) [
      | inl less ↦ let some : c.next_run-run.result.begin < c.next_run-run.result.end = r.some less in omega arith
      | inr over ↦ omega arith
    ] in
    let smaller : c.args.self.now.site.span.end - c.next_run-run.result.end < c.args.self.now.site.span.end - c.loop-at.at = omega arith in
    smaller

pub loop-at-preserved : goal.loop-at-preserved
loop-at-preserved c =
    let image : HeapImage = c.args.self.now.site.guide.now in
    let sound : HasLiveList image = c.image_is_valid.ensures.live_list in
    let start : ℕ = c.args.self.now.site.span.start in
    let r = c.next_run-run.ensures in
    let h = c.loop-at.invariant in
    let on : c.loop-at.at ≤ c.next_run-run.result.begin = r.after in
    let up : c.next_run-run.result.begin ≤ c.next_run-run.result.end = r.ordered in
    let within : c.next_run-run.result.end ≤ c.args.self.now.site.span.end = r.within in
    let fits = c.plan_laws.ensures.prefix_region image c.args.self.now.site.region c.args.self.now.in_prefix in
    let long : c.args.self.now.site.span.end ≡ start_of image c.args.self.now.site.region + region_words image = c.args.self.now.site.end in
    let low : start ≤ c.loop-at.at = h.low in
    record {
      low = omega arith;
      high = omega arith;
      split = split_stays c.plan_laws.ensures image sound start c.write_gap.new.words c.next_run-run.result.begin c.next_run-run.result.end c.write_gap.ensures.now up (omega arith) (λ q l m. r.live q l m);
      same_length = c.write_gap.ensures.same_length ∙ h.same_length;
    }

pub returns : goal.returns
returns c =
    let site = c.args.self.now.site in
    let image : HeapImage = site.guide.now in
    let h = c.loop-at.invariant in
    let block = h.same_length ∙ (unwritten_block image site.region c.args.words.now c.image_is_valid.ensures site.inside c.requires) in
    let end : site.span.end ≤ c.loop-at.at = c.loop-at-test.false in
    record { same_length = h.same_length; now = split_all (copied_word image) (word_at image) site.span.start c.loop-at.words c.loop-at.at h.split (omega (arith, block, site.start, site.end)) }
