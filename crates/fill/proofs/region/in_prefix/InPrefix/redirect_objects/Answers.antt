use Rattle.std.proofs.Common.{◌≡◌, ◌+◌, ◌-◌, ◌≤◌, ◌<◌, ℕ, List, length, get_or, refl, sym, ◌∙◌, ap, subst, arith}
use Rattle.object_heap.specs.Header.{size_of}
use Rattle.object_heap.specs.HeapImage.{HeapImage, HasLiveList, heap_words, region_words, start_of, size_at, end_of, word_at}
use Rattle.summary.specs.NewAddresses.{prefix_end, new_address, new_top}
use Rattle.summary.specs.WordMoves.{slid}
use Rattle.summary.specs.Compaction.{moved_word}
use Rattle.fill.specs.WordBlocks.{IsSplitAt}
use Rattle.fill.specs.CopiedWords.{copied_word}
use Rattle.fill.specs.WrittenWords.{IsBlockOf}
use Rattle.fill.specs.Objects.{IsNextObject, HasNoObject, IsPassed, IsMovedTo}
use Rattle.fill.proofs.Lemmas.Writing.{split_none}
use Rattle.fill.proofs.Lemmas.Redirects.{below-kept, stays, object_size, object_end, passed-object, passed-start, deferred-not, deferred-over}
use Rattle.fill.proofs.Lemmas.Steps.{header-size, region-header, region-last, object-late}
use Rattle.fill.proofs.region.in_prefix.InPrefix.redirect_objects.Goals as goal
use Rattle.fill.proofs.region.in_prefix.InPrefix.redirect_objects.Goals.{In-Some, then-a-length, else-a-length}

-- an object that begins in the region
module _ (c : In-Some) where
  abbrev image : HeapImage
  image = c.args.self.now.site.guide.now

  abbrev d : ℕ
  d = c.args.self.now.site.region

  abbrev start : ℕ
  start = c.args.self.now.site.span.start

  abbrev end : ℕ
  end = c.args.self.now.site.span.end

  abbrev a : ℕ
  a = c.in-Some.a

  abbrev words : List ℕ
  words = c.loop-a.words

  sound : HasLiveList image
  sound = c.image_is_valid.ensures.live_list

  next : IsNextObject image c.loop-a.from a
  next = c.in-Some.ensures.first

  kept : end ≤ prefix_end image
  kept = omega (arith, c.args.self.now.site.end, c.plan_laws.ensures.prefix_region image d c.args.self.now.in_prefix)

  goes : a ≡ new_address image a
  goes = stays c.plan_laws.ensures image sound a next.object (omega (arith, kept, c.in-Some.ensures.below))

  block : IsBlockOf image c.loop-a.words
  block = c.loop-a.invariant.same_length ∙ c.requires.block

  whole : end ≡ start + length words
  whole = omega (arith, block, c.args.self.now.site.start, c.args.self.now.site.end)

  on : IsSplitAt (moved_word image) (copied_word image) start words a × (get_or words (a - start) 0 ≡ word_at image a) × (start ≤ a)
  on = region-header c.plan_laws.ensures image sound c.loop-a.from a start a words c.loop-a.invariant.passed next c.loop-a.invariant.split goes c.loop-a.invariant.low (omega (arith, whole, c.in-Some.ensures.below))

  low : start ≤ a
  low = on.2

pub loop-a-init : goal.loop-a-init
loop-a-init c =
    let image : HeapImage = c.args.self.now.site.guide.now in
    let sound : HasLiveList image = c.image_is_valid.ensures.live_list in
    let start : ℕ = c.args.self.now.site.span.start in
    let at : start ≡ start_of image c.args.self.now.site.region = c.args.self.now.site.start in
    let place : slid image start ≡ start = c.plan_laws.ensures.slid-low image start (omega (arith, at, c.args.self.now.in_prefix)) in
    record {
      in_heap = omega (arith, c.args.self.now.site.in_heap, at, c.args.self.now.site.end);
      low = omega arith;
      passed = passed-start c.plan_laws.ensures image sound c.args.self.now.site.region start (place ∙ at);
      split = subst (IsSplitAt (moved_word image) (copied_word image) start c.args.words.now) (sym place) (split_none (moved_word image) (copied_word image) start c.args.words.now c.requires.copied);
      same_length = refl;
    }

pub overflow_sub-a : goal.overflow_sub-a
overflow_sub-a c = low (goal.at.overflow_sub-a c).In-Some

pub get-header-requires : goal.get-header-requires
get-header-requires c =
    let at = (goal.at.get-header-requires c).In-Some in
    omega (arith, low at, c.in-Some.ensures.below, c.args.self.now.site.start, c.args.self.now.site.end, block at)

pub redirect_object-requires-clause-object : goal.redirect_object-requires-clause-object
redirect_object-requires-clause-object c =
    let at = (goal.at.redirect_object-requires-clause-object c).In-Some in
    let site = c.args.self.now.site in
    let image : HeapImage = site.guide.now in
    let size_is = λ (b : ℕ) (is : IsMovedTo image c.in-Some.a b). (
    header-size c.plan_laws.ensures image (sound at) c.image_is_own.ensures b site.span.start c.in-Some.a c.get-header.result c.from-length.result c.loop-a.words is (low at) (omega (arith, whole at, c.in-Some.ensures.below)) (on at).0 c.get-header.ensures (c.from-length.ensures ∙ c.size.ensures)) in
    let fits : c.in-Some.a + c.from-length.result ≤ site.span.end = c.if-a-length.true in
    record {
      object = (c.in-Some.a, record { object = (next at).object; place = goes at });
      early = λ b is. (
          let size : c.from-length.result ≡ size_at image b = size_is b is in
          let place : c.in-Some.a ≡ new_address image b = is.place in
          deferred-not c.plan_laws.ensures image (sound at) site.region b is.object (omega (arith, low at, site.start)) (omega (arith, site.end)));
      high = λ b is. (let size : c.from-length.result ≡ size_at image b = size_is b is in omega arith);
    }

pub redirect_object-requires-clause-low : goal.redirect_object-requires-clause-low
redirect_object-requires-clause-low c = low (goal.at.redirect_object-requires-clause-low c).In-Some

pub redirect_object-requires-clause-block : goal.redirect_object-requires-clause-block
redirect_object-requires-clause-block c = block (goal.at.redirect_object-requires-clause-block c).In-Some

pub redirect_object-requires-clause-split : goal.redirect_object-requires-clause-split
redirect_object-requires-clause-split c = (on (goal.at.redirect_object-requires-clause-split c).In-Some).0

pub loop-a-smaller : goal.loop-a-smaller
loop-a-smaller c =
    let at = (goal.at.loop-a-smaller c).In-Some in
    let image : HeapImage = c.args.self.now.site.guide.now in
    let size : c.from-length.result ≡ size_at image c.in-Some.a = c.from-length.ensures ∙ c.size.ensures ∙ ap size_of (c.get-header.ensures ∙ (on at).1) ∙ sym (c.image_is_own.ensures.sizes (word_at image c.in-Some.a)) in
    let sizes = object_size c.plan_laws.ensures image (sound at) c.in-Some.a (next at).object in
    let some : 0 < size_at image c.in-Some.a = sizes.0 in
    let end : end_of image c.in-Some.a ≤ heap_words image = sizes.1 in
    let far : c.loop-a.from ≤ c.in-Some.a = (next at).after in
    let smaller : heap_words image - (c.in-Some.a + c.from-length.result) < heap_words image - c.loop-a.from = omega arith in
    smaller

pub loop-a-preserved : goal.loop-a-preserved
loop-a-preserved c =
    let at = (goal.at.loop-a-preserved c).In-Some in
    let site = c.args.self.now.site in
    let image : HeapImage = site.guide.now in
    let start : ℕ = site.span.start in
    let a : ℕ = c.in-Some.a in
    let h = c.loop-a.invariant in
    let under = low at in
    let object = (next at).object in
    let size : c.from-length.result ≡ size_at image a = c.from-length.ensures ∙ c.size.ensures ∙ ap size_of (c.get-header.ensures ∙ (on at).1) ∙ sym (c.image_is_own.ensures.sizes (word_at image c.in-Some.a)) in
    let sizes = object_size c.plan_laws.ensures image (sound at) a object in
    let fits : end_of image a ≤ heap_words image = sizes.1 in
    let end : a + c.from-length.result ≡ end_of image a = ap (λ n. a + n) size in
    let behind : slid image (a + c.from-length.result) ≡ a + size_at image a = ap (slid image) end ∙ object_end c.plan_laws.ensures image (sound at) a object ∙ ap (λ n. n + size_at image a) (sym (goes at)) in
    let step : IsSplitAt (moved_word image) (copied_word image) start c.if-a-length.words (a + size_at image a) = elim c.if-a-length.branch [
      | then-a-length w ↦ subst (λ (xs : List ℕ). IsSplitAt (moved_word image) (copied_word image) start xs (a + size_at image a)) (sym w.words-is) (w.redirect_object.ensures.now a (record { object = object; place = goes at }))
      | else-a-length w ↦
          let over : site.span.end < a + c.from-length.result = w.if-a-length.false in
          let below : a < site.span.end = c.in-Some.ensures.below in
          let to = goes at in
          let late = deferred-over c.plan_laws.ensures image (sound at) site.region a object (omega (arith, site.start)) (omega (arith, site.end)) (omega (arith, site.end)) in
          subst (λ (xs : List ℕ). IsSplitAt (moved_word image) (copied_word image) start xs (a + size_at image a)) (sym w.words-is) (object-late c.plan_laws.ensures image (sound at) a start a c.loop-a.words object late to (on at).0)
    ] in
    let same : length c.if-a-length.words ≡ length c.args.words.now = elim c.if-a-length.branch [
      | then-a-length w ↦ ap length w.words-is ∙ (w.redirect_object.ensures.same_length ∙ h.same_length)
      | else-a-length w ↦ ap length w.words-is ∙ h.same_length
    ] in
    record {
      in_heap = omega arith;
      low = omega arith;
      passed = subst (IsPassed image) (sym end) (passed-object c.plan_laws.ensures image (sound at) a object);
      split = subst (IsSplitAt (moved_word image) (copied_word image) start c.if-a-length.words) (sym behind) step;
      same_length = same;
    }

pub returns : goal.returns
returns c =
    let image : HeapImage = c.args.self.now.site.guide.now in
    let sound : HasLiveList image = c.image_is_valid.ensures.live_list in
    let h = c.loop-a.invariant in
    let start : ℕ = c.args.self.now.site.span.start in
    let at : start ≡ start_of image c.args.self.now.site.region = c.args.self.now.site.start in
    let end : c.args.self.now.site.span.end ≡ start_of image c.args.self.now.site.region + region_words image = c.args.self.now.site.end in
    let kept : start_of image c.args.self.now.site.region + region_words image ≤ prefix_end image = c.plan_laws.ensures.prefix_region image c.args.self.now.site.region c.args.self.now.in_prefix in
    let block = h.same_length ∙ c.requires.block in
    let long : length c.loop-a.words ≡ region_words image = block in
    let none : HasNoObject image c.loop-a.from c.args.self.now.site.span.end = c.in_default.ensures.first in
    let reached = λ (p : ℕ) (l : start ≤ p) (m : p < start + length c.loop-a.words) (n : p < new_top image). below-kept c.plan_laws.ensures image p c.args.self.now.site.span.end (omega arith) (omega arith) in
    record { same_length = h.same_length; now = region-last c.plan_laws.ensures image sound c.loop-a.from c.args.self.now.site.span.end start c.loop-a.words h.passed none reached h.low h.split }
