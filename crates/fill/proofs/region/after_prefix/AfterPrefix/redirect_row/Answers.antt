use Rattle.std.proofs.Common.{◌≡◌, ◌+◌, ◌-◌, ◌≤◌, ◌<◌, ℕ, length, refl, sym, ◌∙◌, ap, subst, arith, max, min}
use Rattle.object_heap.specs.HeapImage.{HeapImage, HasLiveList, size_at}
use Rattle.summary.specs.NewAddresses.{new_address, new_top}
use Rattle.summary.specs.Compaction.{moved_word}
use Rattle.fill.specs.WordBlocks.{IsSplitAt}
use Rattle.fill.specs.WrittenWords.{IsBlockOf}
use Rattle.fill.specs.CopiedWords.{copied_word}
use Rattle.fill.specs.Objects.{IsMovedTo, IsBetween}
use Rattle.fill.proofs.Lemmas.Writing.{split_skip, split_all}
use Rattle.fill.proofs.Lemmas.Redirects.{object_size, object-at, between-end, moved-top, deferred-not, deferred-over}
use Rattle.fill.proofs.Lemmas.Steps.{header-size, object-late}
use Rattle.fill.proofs.region.after_prefix.AfterPrefix.redirect_row.Goals as goal
use Rattle.fill.proofs.region.after_prefix.AfterPrefix.redirect_row.Goals.{After-from}

-- the object at `at`, once its size is read
module _ (c : After-from) where
  abbrev image : HeapImage
  image = c.args.self.now.site.guide.now

  abbrev start : ℕ
  start = c.args.self.now.site.span.start

  abbrev end : ℕ
  end = c.args.self.now.site.span.end

  abbrev at : ℕ
  at = c.loop-at.at

  sound : HasLiveList image
  sound = c.image_is_valid.ensures.live_list

  low : start ≤ at
  low = c.loop-at.invariant.low

  below : (at < new_top image) × (at < end)
  below =
      let test : at < c.min-limit.result = c.loop-at-test.true in
      let limit : c.min-limit.result ≡ min c.new_top.result end = c.min-limit.ensures in
      let top : c.new_top.result ≡ new_top image = c.new_top.ensures ∙ ap new_top c.plan.ensures in
      (omega arith, omega arith)

  block : IsBlockOf image c.loop-at.words
  block = c.loop-at.invariant.same_length ∙ c.requires.block

  whole : end ≡ start + length c.loop-at.words
  whole = omega (arith, block, c.args.self.now.site.start, c.args.self.now.site.end)

  found : (a : ℕ) × IsMovedTo image at a
  found = object-at c.plan_laws.ensures image sound at (omega (arith, low, c.args.self.now.site.start, c.args.self.now.after_prefix)) below.0 c.loop-at.invariant.between

  size_is : (a : ℕ) → IsMovedTo image at a → c.from.result ≡ size_at image a
  size_is a on = header-size c.plan_laws.ensures image sound c.image_is_own.ensures a start at c.get-header.result c.from.result c.loop-at.words on low (omega (arith, whole, below.1)) c.loop-at.invariant.split c.get-header.ensures (c.from.ensures ∙ c.size.ensures)

  behind_object : new_address image found.0 + size_at image found.0 ≡ at + c.from.result
  behind_object = let goes = found.1.place in let size = size_is found.0 found.1 in omega arith

  still_between : IsBetween image (at + c.from.result)
  still_between = subst (IsBetween image) behind_object (between-end c.plan_laws.ensures image sound found.0 found.1.object)

pub loop-at-init : goal.loop-at-init
loop-at-init c = record { low = c.requires.low; between = c.requires.between; split = c.requires.split; same_length = refl }

pub overflow_sub-at : goal.overflow_sub-at
overflow_sub-at c = c.loop-at.invariant.low

pub get-header-requires : goal.get-header-requires
get-header-requires c =
    let site = c.args.self.now.site in
    let block = c.loop-at.invariant.same_length ∙ c.requires.block in
    let limit : c.min-limit.result ≡ min c.new_top.result site.span.end = c.min-limit.ensures in
    let below : c.loop-at.at < c.min-limit.result = c.loop-at-test.true in
    omega (arith, c.loop-at.invariant.low, block, site.start, site.end)

pub redirect_object-requires-clause-object : goal.redirect_object-requires-clause-object
redirect_object-requires-clause-object c =
    let read = (goal.at.redirect_object-requires-clause-object c).After-from in
    let site = c.args.self.now.site in
    let fits : c.loop-at.at + c.from.result ≤ site.span.end = omega (arith, c.if-next-span.true) in
    record {
      object = found read;
      early = λ a on. (
          let size : c.from.result ≡ size_at site.guide.now a = size_is read a on in
          let goes : c.loop-at.at ≡ new_address site.guide.now a = on.place in
          deferred-not c.plan_laws.ensures site.guide.now (sound read) site.region a on.object (omega (arith, low read, site.start)) (omega (arith, site.end)));
      high = λ a on. (let size : c.from.result ≡ size_at site.guide.now a = size_is read a on in omega arith);
    }

pub redirect_object-requires-clause-block : goal.redirect_object-requires-clause-block
redirect_object-requires-clause-block c = block (goal.at.redirect_object-requires-clause-block c).After-from

pub redirect_object-requires-clause-low : goal.redirect_object-requires-clause-low
redirect_object-requires-clause-low c = c.loop-at.invariant.low

pub redirect_object-requires-clause-split : goal.redirect_object-requires-clause-split
redirect_object-requires-clause-split c = c.loop-at.invariant.split

pub loop-at-smaller-then-next-span : goal.loop-at-smaller-then-next-span
loop-at-smaller-then-next-span c =
    let read = (goal.at.loop-at-smaller-then-next-span c).After-from in
    let image : HeapImage = c.args.self.now.site.guide.now in
    let test : c.loop-at.at < c.min-limit.result = c.loop-at-test.true in
    let size : c.from.result ≡ size_at image (found read).0 = size_is read (found read).0 (found read).1 in
    let sizes = object_size c.plan_laws.ensures image (sound read) (found read).0 (found read).1.object in
    let some : 0 < size_at image (found read).0 = sizes.0 in
    let smaller : c.min-limit.result - (c.loop-at.at + c.from.result) < c.min-limit.result - c.loop-at.at = omega arith in
    smaller

pub loop-at-preserved-then-next-span : goal.loop-at-preserved-then-next-span
loop-at-preserved-then-next-span c =
    let read = (goal.at.loop-at-preserved-then-next-span c).After-from in
    let site = c.args.self.now.site in
    let h = c.loop-at.invariant in
    let e = c.redirect_object.ensures in
    let size : c.from.result ≡ size_at site.guide.now (found read).0 = size_is read (found read).0 (found read).1 in
    record {
      low = omega (arith, h.low);
      between = still_between read;
      split = subst (λ (n : ℕ). IsSplitAt (moved_word site.guide.now) (copied_word site.guide.now) site.span.start c.redirect_object.new.words (c.loop-at.at + n)) (sym size) (e.now (found read).0 (found read).1);
      same_length = e.same_length ∙ h.same_length;
    }

pub loop-at-preserved : goal.loop-at-preserved
loop-at-preserved c =
    let read = (goal.at.loop-at-preserved c).After-from in
    let site = c.args.self.now.site in
    let image : HeapImage = site.guide.now in
    let h = c.loop-at.invariant in
    let at : ℕ = c.loop-at.at in
    let a : ℕ = (found read).0 in
    let on : IsMovedTo image at a = (found read).1 in
    let size : c.from.result ≡ size_at image a = size_is read a on in
    let goes : at ≡ new_address image a = on.place in
    let under : at < site.span.end = (below read).1 in
    let over : site.span.end < at + c.from.result = omega (arith, c.if-next-span.false) in
    let late = deferred-over c.plan_laws.ensures image (sound read) site.region a on.object (omega (arith, h.low, site.start)) (omega (arith, site.end)) (omega (arith, site.end)) in
    record {
      low = omega (arith, h.low);
      between = still_between read;
      split = subst (λ (n : ℕ). IsSplitAt (moved_word image) (copied_word image) site.span.start c.loop-at.words (at + n)) (sym size) (object-late c.plan_laws.ensures image (sound read) a site.span.start at c.loop-at.words on.object late goes h.split);
      same_length = h.same_length;
    }

pub returns : goal.returns
returns c =
    let site = c.args.self.now.site in
    let image : HeapImage = site.guide.now in
    let sound : HasLiveList image = c.image_is_valid.ensures.live_list in
    let h = c.loop-at.invariant in
    let block = h.same_length ∙ c.requires.block in
    let at : ℕ = c.loop-at.at in
    let limit : c.min-limit.result ≡ min c.new_top.result site.span.end = c.min-limit.ensures in
    let past : c.min-limit.result ≤ at = c.loop-at-test.false in
    let top : c.new_top.result ≡ new_top image = c.new_top.ensures ∙ ap new_top c.plan.ensures in
    let end : ℕ = max at (site.span.start + length c.loop-at.words) in
    let rest = split_skip (moved_word image) (copied_word image) site.span.start c.loop-at.words at end h.split (omega arith) (λ p l less k. moved-top c.plan_laws.ensures image sound p (omega (arith, block, site.start, site.end))) in
    record { same_length = h.same_length; now = split_all (moved_word image) (copied_word image) site.span.start c.loop-at.words end rest (omega arith) }
