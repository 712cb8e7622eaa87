use Rattle.std.proofs.Common.{◌≡◌, ◌+◌, ◌-◌, ◌≤◌, ◌<◌, ℕ, List, length, get_or, map, sym, ◌∙◌, ap, subst, arith, true}
use Rattle.std.proofs.lemmas.List.{get_or_default}
use Rattle.raw_region.specs.Region.{with_words, part}
use Rattle.object_heap.specs.Header.{references_of}
use Rattle.object_heap.specs.HeapImage.{HeapImage, HasLiveList, word_at, references_at, size_at, is_null_or_live}
use Rattle.summary.specs.Compaction.{moved_word, redirected, redirected_word}
use Rattle.fill.specs.WordBlocks.{IsSplitAt}
use Rattle.fill.specs.CopiedWords.{copied_word}
use Rattle.fill.specs.Objects.{IsMovedTo}
use Rattle.fill.proofs.Lemmas.Redirects.{object_size}
use Rattle.fill.proofs.Lemmas.Steps.{header-read, reference-read, reference-sound, object-row, object-done}
use Rattle.fill.proofs.Lemmas.Writing.{get_or-part, length-part}
use Rattle.fill.proofs.region.site.Site.redirect_object.Goals as goal
use Rattle.fill.proofs.region.site.Site.redirect_object.Goals.{After-references-count}

pub get-requires : goal.get-requires
get-requires c =
    let image : HeapImage = c.args.self.now.guide.now in
    let r = c.requires in
    let a : ℕ = r.object.object.0 in
    let on : IsMovedTo image c.args.at a = r.object.object.1 in
    let ends : c.args.at + size_at image a ≤ c.args.self.now.span.end = r.object.high a on in
    let size = object_size c.plan_laws.ensures image c.image_is_valid.ensures.live_list a on.object in
    let some : 0 < size_at image a = size.0 in
    omega (arith, r.block, r.low, ends, c.args.self.now.start, c.args.self.now.end)

-- once the number of references is read
module _ (c : After-references-count) where
  abbrev image : HeapImage
  image = c.args.self.now.guide.now

  abbrev words : List ℕ
  words = c.args.words.now

  abbrev first : ℕ
  first = c.args.at - c.args.self.now.span.start

  sound : HasLiveList image
  sound = c.image_is_valid.ensures.live_list

  -- the object that goes there lies in the words
  fits : (a : ℕ) → IsMovedTo image c.args.at a → c.args.at + size_at image a ≤ c.args.self.now.span.start + length words
  fits a on = let end = c.requires.object.high a on in omega (arith, end, c.requires.block, c.args.self.now.start, c.args.self.now.end)

  count : (a : ℕ) → IsMovedTo image c.args.at a → c.references-count.result ≡ references_at image a
  count a on =
      let size = object_size c.plan_laws.ensures image sound a on.object in
      let some : 0 < size_at image a = size.0 in
      let end = fits a on in
      c.references-count.ensures
      ∙ ap references_of (c.get.ensures ∙ header-read c.plan_laws.ensures image sound a c.args.self.now.span.start c.args.at words on.object on.place c.requires.low (omega arith) c.requires.split)
      ∙ sym (c.image_is_own.ensures.references (word_at image a))

  inside : first + 1 + c.references-count.result ≤ length words
  inside =
      let a : ℕ = c.requires.object.object.0 in
      let on : IsMovedTo image c.args.at a = c.requires.object.object.1 in
      let size = object_size c.plan_laws.ensures image sound a on.object in
      let less : references_at image a < size_at image a = size.2 in
      let end = fits a on in
      let low = c.requires.low in
      omega (arith, count a on)

pub redirect-requires-clause-inside : goal.redirect-requires-clause-inside
redirect-requires-clause-inside c =
    let read = (goal.at.redirect-requires-clause-inside c).After-references-count in
    inside read

pub redirect-requires-clause-sound : goal.redirect-requires-clause-sound
redirect-requires-clause-sound c = λ f d l.
    let read = (goal.at.redirect-requires-clause-sound c).After-references-count in
    let g : HeapImage = image read in
    let xs : List ℕ = words read in
    let n : ℕ = c.references-count.result in
    let a : ℕ = c.requires.object.object.0 in
    let on : IsMovedTo g c.args.at a = c.requires.object.object.1 in
    let few : f < n = omega (arith, l, length-part xs (first read + 1) n (inside read)) in
    let more : f < references_at g a = omega (arith, count read a on) in
    let word : get_or (part xs (first read + 1) n) f d ≡ word_at g (a + 1 + f) =
    get_or_default (part xs (first read + 1) n) f d 0 l ∙ get_or-part xs (first read + 1) n f few
    ∙ reference-read c.plan_laws.ensures g (sound read) a f c.args.self.now.span.start c.args.at xs on.object (c.requires.object.early a on) on.place c.requires.low (fits read a on) more c.requires.split in
    subst (λ (m : HeapImage). is_null_or_live m (get_or (part xs (first read + 1) n) f d) ≡ true) (sym c.plan.ensures)
    (subst (λ (w : ℕ). is_null_or_live g w ≡ true) (c.image_is_own.ensures.leads (word_at g (a + 1 + f)) ∙ sym word) (reference-sound c.plan_laws.ensures g (sound read) a f on.object more))

pub returns : goal.returns
returns c =
    let read = (goal.at.returns c).After-references-count in
    let g : HeapImage = image read in
    let start : ℕ = c.args.self.now.span.start in
    let xs : List ℕ = words read in
    let from : ℕ = first read + 1 in
    record {
      same_length = c.redirect.ensures.same_length;
      now = λ b is. (
          let written : c.redirect.new.region ≡ with_words xs from (map (redirected_word g) (part xs from (references_at g b))) =
          c.redirect.ensures.value
          ∙ ap (λ (m : HeapImage). with_words xs from (map (redirected m) (part xs from c.references-count.result))) c.plan.ensures
          ∙ ap (λ (n : ℕ). with_words xs from (map (redirected g) (part xs from n))) (count read b is)
          ∙ ap (with_words xs from) (sym (c.image_is_own.ensures.redirects_all (part xs from (references_at g b)))) in
          let row = object-row c.plan_laws.ensures g (sound read) b start c.args.at xs is.object (c.requires.object.early b is) is.place c.requires.low (fits read b is) c.requires.split in
          object-done c.plan_laws.ensures g (sound read) b start c.args.at c.redirect.new.region is.object is.place
          (subst (λ (ys : List ℕ). IsSplitAt (moved_word g) (copied_word g) start ys (c.args.at + 1 + references_at g b)) (sym written) row));
    }
