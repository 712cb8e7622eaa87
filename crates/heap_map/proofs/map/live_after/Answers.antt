use Rattle.std.proofs.Common.{◌∙◌, ◌-◌, ap, subst, arith}
use Rattle.std.specs.List.{range_with_len}
use Rattle.std.proofs.lemmas.List.FromFn.{length-range_with_len}
use Rattle.std.proofs.lemmas.List.Sums.{count_by-le-length}
use Rattle.object_heap.specs.HeapImage.{HeapImage, IsValid, is_live_word, live_words}
use Rattle.summary.specs.Compaction.{compact}
use Rattle.summary.specs.NewAddresses.{new_top, prefix_end}
use Rattle.heap_map.proofs.Lemmas.Ranges.{count_by-all, count_by-none, count_by-same}
use Rattle.heap_map.proofs.map.live_after.Goals as goal

pub overflow_add-result : goal.overflow_add-result
overflow_add-result c =
    let image : HeapImage = c.args.survey.now in
    let low = c.max-low.result in
    let most = count_by-le-length (is_live_word image) (range_with_len c.args.from (low - c.args.from)) in
    let long = length-range_with_len c.args.from (low - c.args.from) in
    omega (arith, c.live_words.ensures ∙ ap (λ h. live_words h c.args.from low) c.marks.ensures, most, long)

pub returns : goal.returns
returns c =
    let image : HeapImage = c.args.survey.now in
    let same = c.plan-plan.ensures in
    let valid : IsValid image = subst IsValid same c.prefix_end.ensures.valid in
    let prefix = c.prefix_end.ensures.value ∙ ap prefix_end same in
    let top = c.new_top.ensures ∙ ap new_top same in
    let law = c.live_word_after.ensures in
    let parts = c.live_words_by_blocks.ensures.parts in
    let from = c.args.from in
    let to = c.args.to in
    let low = c.max-low.result in
    let high = c.max-high.result in
    let below = count_by-same (is_live_word (compact image)) (is_live_word image) from (low - from) (λ q l k. law.below image valid q (omega arith)) in
    let moved = count_by-all (is_live_word (compact image)) low (high - low) (λ q l k. law.moved image valid q (omega arith) (omega arith)) in
    let free = count_by-none (is_live_word (compact image)) high (to - high) (λ q l k. law.free image valid q (omega arith)) in
    let one = parts (compact image) from low to (omega arith) (omega arith) in
    let two = parts (compact image) low high to (omega arith) (omega arith) in
    let live = c.live_words.ensures ∙ ap (λ h. live_words h from low) c.marks.ensures in
    omega (arith, live, below, moved, free, one, two)
