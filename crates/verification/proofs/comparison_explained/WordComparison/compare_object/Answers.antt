use Rattle.std.proofs.Common.{ℕ, ◌+◌, ◌≤◌, ◌<◌, sym, ◌∙◌, arith}
use Rattle.object_heap.specs.HeapImage.{HeapImage, heap_words, word_at, size_at}
use Rattle.summary.specs.Compaction.{compact}
use Rattle.verification.proofs.Lemmas.Placing.{header_word}
use Rattle.verification.proofs.comparison_explained.WordComparison.compare_object.Goals as goal

first_inside : (place s n : ℕ) → 0 < s → place + s ≤ n → n ≤ 68719476736 → place < 68719476736
first_inside place s n some inside few = omega (arith, some, inside, few)

pub compare-requires-clause-few : goal.compare-requires-clause-few
compare-requires-clause-few c = c.requires.tally.few

pub compare-requires-clause-inside : goal.compare-requires-clause-inside
compare-requires-clause-inside c =
    let before : HeapImage = c.args.self.now.before.now in
    first_inside c.args.place (size_at before c.args.a) (heap_words before) c.requires.placed.sound.header c.requires.placed.inside c.image_is_valid.ensures.limits.few_words

pub compare_references-requires-clause-tally : goal.compare_references-requires-clause-tally
compare_references-requires-clause-tally c =
    let before : HeapImage = c.args.self.now.before.now in
    let after : HeapImage = c.args.self.now.after.now in
    c.in_ok-compare.ensures.tally (word_at (compact before)) (word_at after) (header_word before c.args.a c.args.place c.requires.placed ∙ sym c.word.ensures) (sym c.word-2.ensures) c.requires.tally
