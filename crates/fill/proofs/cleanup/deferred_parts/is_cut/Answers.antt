use Rattle.std.proofs.Common.{◌≡◌, ◌+◌, ◌-◌, ◌*◌, ◌<◌, ℕ, length, get_or, sym, ◌∙◌, ap, subst, arith}
use Rattle.std.specs.List.{concat}
use Rattle.std.proofs.lemmas.Bool.{ltb-true}
use Rattle.object_heap.specs.Header.{references_of}
use Rattle.object_heap.specs.Layout.{references_in}
use Rattle.object_heap.specs.HeapImage.{HeapImage, FormHeap, region_words, start_of}
use Rattle.summary.specs.Compaction.{moved_word}
use Rattle.fill.specs.MovedHeap.{is_late_before, IsCut}
use Rattle.fill.proofs.Lemmas.Late.{length-words, words_not}
use Rattle.fill.proofs.Lemmas.Parts.{begin_inside, part_form, part_words}
use Rattle.fill.proofs.cleanup.deferred_parts.is_cut.Goals as goal
use Rattle.fill.proofs.cleanup.deferred_parts.is_cut.Goals.{After-from}

pub word-requires-clause-heap : goal.word-requires-clause-heap
word-requires-clause-heap c =
    subst (λ (log : ℕ). FormHeap log c.args.regions.now) (sym c.region_log.ensures.value)
    (part_form c.args.plan.now c.planned_image_is_valid.ensures c.args.first c.args.regions.now c.requires.part)

pub word-requires-clause-inside : goal.word-requires-clause-inside
word-requires-clause-inside c =
    let image : HeapImage = c.args.plan.now in
    let first : ℕ = c.args.first in
    let count : ℕ = length c.args.regions.now in
    let place = c.requires.place in
    let some = place.0 in
    let few = place.1 in
    let begin = begin_inside image first count (first + (c.args.cut - 1)) c.in-Some.begin (omega arith) (omega arith) c.late_references.ensures.region in
    let words = part_words image first c.args.regions.now c.requires.part in
    let all : length (concat c.args.regions.now) ≡ count * region_words image = ap length words ∙ length-words image (start_of image first) (count * region_words image) (is_late_before image first) in
    let low = begin.0 in
    let high = begin.1 in
    let start = c.part_start.ensures in
    omega arith

pub returns-in-Some : goal.returns-in-Some
returns-in-Some c = λ h.
    let image : HeapImage = c.args.plan.now in
    let first : ℕ = c.args.first in
    let count : ℕ = length c.args.regions.now in
    let x : ℕ = c.in-Some.begin in
    let a : ℕ = start_of image first in
    let place = c.requires.place in
    let some = place.0 in
    let few = place.1 in
    let begin = begin_inside image first count (first + (c.args.cut - 1)) x (omega arith) (omega arith) c.late_references.ensures.region in
    let low = begin.0 in
    let high = begin.1 in
    let start = c.part_start.ensures in
    let k : ℕ = x - c.part_start.result in
    let at : a + k ≡ x = omega arith in
    let words = part_words image first c.args.regions.now c.requires.part in
    let is : c.word.result ≡ moved_word image x = c.word.ensures ∙ ap (λ ws. get_or ws k 0) words
    ∙ words_not image a (count * region_words image) (is_late_before image first) k (omega arith) (ap (is_late_before image first) at ∙ c.requires.part.begins x low)
    ∙ ap (moved_word image) at in
    let n : c.from.result ≡ references_in image.layout (moved_word image x) = c.from.ensures ∙ c.references-count.ensures ∙ ap references_of is ∙ sym (c.planned_image_is_own.ensures.references (moved_word image x)) in
    let next : first + (c.args.cut - 1) + 1 ≡ first + c.args.cut = omega arith in
    let end = c.part_start-in-Some.ensures in
    let less : x + c.from.result < c.part_start-in-Some.result = ltb-true (x + c.from.result) c.part_start-in-Some.result h in
    subst (λ d. IsCut image d) next (c.late_references.ensures.cut (omega arith))
