use Rattle.std.proofs.Common.{◌≡◌, ◌+◌, ◌-◌, ◌*◌, ◌≤◌, ◌<◌, ℕ, length, get_or, true, sym, ◌∙◌, ap, subst, arith, None}
use Rattle.std.specs.List.{concat}
use Rattle.object_heap.specs.Header.{references_of}
use Rattle.object_heap.specs.Layout.{references_in}
use Rattle.object_heap.specs.HeapImage.{HeapImage, region_words, start_of, is_null_or_live}
use Rattle.summary.specs.Compaction.{moved_word, redirected}
use Rattle.fill.specs.MovedHeap.{is_late_before, is_reference_behind, words_from}
use Rattle.fill.proofs.Lemmas.Late.{length-words, words_not, words_same, late-next, or_false, late_up_to, behind-from, up_to-begin, up_to-end}
use Rattle.fill.proofs.Lemmas.Parts.{late_length, late_old, late_row}
use Rattle.fill.proofs.cleanup.deferred.update_region.Goals as goal
use Rattle.fill.proofs.cleanup.deferred.update_region.Goals.{After-from, In-loop-at}

pub word-requires-clause-inside : goal.word-requires-clause-inside
word-requires-clause-inside c =
    let image : HeapImage = c.args.plan.now in
    let size : ℕ = length c.args.regions.now * region_words image in
    let all : length (concat c.args.regions.now) ≡ size = ap length c.requires.words ∙ length-words image (start_of image c.args.first) size (is_late_before image c.args.d) in
    let low = c.references_in_part.ensures.0 in
    let high = c.references_in_part.ensures.1 in
    let start = c.part_start.ensures in
    omega arith

-- how many references there are
count : (c : After-from) → c.from.result ≡ references_in c.args.plan.now.layout (moved_word c.args.plan.now c.in-Some.begin)
count c =
    let image : HeapImage = c.args.plan.now in
    let d : ℕ = c.args.d in
    let x : ℕ = c.in-Some.begin in
    let a : ℕ = start_of image c.args.first in
    let size : ℕ = length c.args.regions.now * region_words image in
    let k : ℕ = x - c.part_start.result in
    let low = c.references_in_part.ensures.0 in
    let high = c.references_in_part.ensures.1 in
    let start = c.part_start.ensures in
    let at : a + k ≡ x = omega arith in
    let is : c.word.result ≡ moved_word image x = c.word.ensures ∙ ap (λ ws. get_or ws k 0) c.requires.words
    ∙ words_not image a size (is_late_before image d) k (omega arith) (ap (is_late_before image d) at ∙ c.late_references.ensures.header)
    ∙ ap (moved_word image) at in
    c.from.ensures ∙ c.references.ensures ∙ ap references_of is ∙ sym (c.planned_image_is_own.ensures.references (moved_word image x))

pub loop-at-init : goal.loop-at-init
loop-at-init c =
    let image : HeapImage = c.args.plan.now in
    let d : ℕ = c.args.d in
    let x : ℕ = c.in-Some.begin in
    let a : ℕ = start_of image c.args.first in
    let k : ℕ = x - c.part_start.result in
    let low = c.references_in_part.ensures.0 in
    let start = c.part_start.ensures in
    let next : x + 1 ≡ a + (k + 1) = omega arith in
    let all = count c in
    record {
      heap = c.requires.heap;
      end = omega arith;
      low = omega arith;
      high = omega arith;
      words = c.requires.words
          ∙ words_same image a (length c.args.regions.now * region_words image) (is_late_before image d) (late_up_to image d x (x + 1)) (λ p l m. up_to-begin image d x p)
          ∙ ap (λ p. words_from image c.args.first (length c.args.regions.now) (late_up_to image d x p)) next;
    }

-- the references that are left
module _ (c : In-loop-at) where
  abbrev image : HeapImage
  image = c.args.plan.now

  abbrev a : ℕ
  a = start_of image c.args.first

  abbrev x : ℕ
  x = c.in-Some.begin

  abbrev last : ℕ
  last = x - c.part_start.result + 1 + c.from.result

  abbrev still : ℕ
  still = length c.loop-at.regions * region_words image

  -- they lie in the part
  most : last ≤ still
  most =
      let same : still ≡ length c.args.regions.now * region_words image = ap (λ n. n * region_words image) c.loop-at.auto.regions in
      let high = c.references_in_part.ensures.1 in
      let end = c.loop-at.invariant.end in
      omega arith

  behind : (k : ℕ) → c.loop-at.at ≤ k → k < last → is_reference_behind image x (a + k) ≡ true
  behind k l m = let low = c.loop-at.invariant.low in let end = c.loop-at.invariant.end in behind-from image x (a + k) (omega arith) (omega arith)

  -- they are still the moved words
  old : (k : ℕ) → c.loop-at.at ≤ k → k < last → get_or (concat c.loop-at.regions) k 0 ≡ moved_word image (a + k)
  old k l m =
      let inside = most in
      late_old image c.args.first c.args.d x c.loop-at.at c.loop-at.regions c.loop-at.invariant.words k l (omega arith) (c.late_references.ensures.once (a + k) (behind k l m))

pub redirect_within-at-requires-clause-inside : goal.redirect_within-at-requires-clause-inside
redirect_within-at-requires-clause-inside c =
    let all = late_length c.args.plan.now c.args.first c.args.d c.in-Some.begin c.loop-at.at c.loop-at.regions c.loop-at.invariant.words in
    let inside = most c.before in
    omega arith

pub redirect_within-at-requires-clause-sound : goal.redirect_within-at-requires-clause-sound
redirect_within-at-requires-clause-sound c = λ k l m.
    subst (λ (w : ℕ). is_null_or_live c.args.plan.now w ≡ true) (sym (old c.before k l m)) (c.late_references.ensures.sound (a c.before + k) (behind c.before k l m))

pub loop-at-smaller : goal.loop-at-smaller
loop-at-smaller c =
    let more = c.redirect_within-at.ensures.more.0 in
    let last : ℕ = c.in-Some.begin - c.part_start.result + 1 + c.from.result in
    let test : c.loop-at.at < last = c.loop-at-test.true in
    let smaller : last - c.redirect_within-at.result < last - c.loop-at.at = omega arith in
    smaller

pub loop-at-preserved : goal.loop-at-preserved
loop-at-preserved c =
    let image : HeapImage = c.args.plan.now in
    let at : ℕ = c.loop-at.at in
    let next : ℕ = c.redirect_within-at.result in
    let here : In-loop-at = c.before.before.before in
    let low = c.loop-at.invariant.low in
    let more = c.redirect_within-at.ensures.more.0 in
    let few = c.redirect_within-at.ensures.more.1 in
    let inside = most here in
    let is : at + (next - at) ≡ next = omega arith in
    record {
      heap = c.redirect_within-at.ensures.heap;
      end = c.loop-at.invariant.end;
      low = omega arith;
      high = few;
      words = c.redirect_within-at.ensures.value
          ∙ late_row image c.args.first c.args.d c.in-Some.begin at c.loop-at.regions c.loop-at.invariant.words (next - at) (redirected image) (omega arith) low
          (λ k l m. (
            c.late_references.ensures.once (start_of image c.args.first + k) (behind here k l (omega arith)),
            sym (c.planned_image_is_own.ensures.redirects (moved_word image (start_of image c.args.first + k))),
          ))
          ∙ ap (λ n. words_from image c.args.first (length c.loop-at.regions) (late_up_to image c.args.d c.in-Some.begin (start_of image c.args.first + n))) is
          ∙ ap (λ n. words_from image c.args.first n (late_up_to image c.args.d c.in-Some.begin (start_of image c.args.first + next))) (sym c.redirect_within-at.auto.regions);
    }

pub returns-after-loop-at-clause-words : goal.returns-after-loop-at-clause-words
returns-after-loop-at-clause-words c =
    let image : HeapImage = c.args.plan.now in
    let d : ℕ = c.args.d in
    let x : ℕ = c.in-Some.begin in
    let a : ℕ = start_of image c.args.first in
    let end : ℕ = x - c.part_start.result + 1 + c.from.result in
    let most : c.loop-at.at ≤ end = c.loop-at.invariant.high in
    let none : end ≤ c.loop-at.at = c.loop-at-test.false in
    let last : a + c.loop-at.at ≡ x + 1 + references_in image.layout (moved_word image x) = omega (arith, c.loop-at.invariant.end) in
    c.loop-at.invariant.words
    ∙ ap (λ n. words_from image c.args.first n (late_up_to image d x (a + c.loop-at.at))) c.loop-at.auto.regions
    ∙ words_same image a (length c.args.regions.now * region_words image) (late_up_to image d x (a + c.loop-at.at)) (is_late_before image (d + 1)) (λ r l m.
    up_to-end image d x (a + c.loop-at.at) r (sym c.in-Some.ensures) last)

pub returns-in_default-clause-words : goal.returns-in_default-clause-words
returns-in_default-clause-words c =
    let image : HeapImage = c.args.plan.now in
    let d : ℕ = c.args.d in
    c.requires.words ∙ words_same image (start_of image c.args.first) (length c.args.regions.now * region_words image) (is_late_before image d) (is_late_before image (d + 1)) (λ p l m.
    sym (late-next image d p None (sym (c.in_default.ensures)) ∙ or_false (is_late_before image d p)))
