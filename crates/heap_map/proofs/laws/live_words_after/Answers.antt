use Rattle.std.proofs.Common.{◌-◌, arith}
use Rattle.object_heap.specs.HeapImage.{heap_words, is_live_word}
use Rattle.summary.specs.Compaction.{compact}
use Rattle.summary.specs.NewAddresses.{new_top, prefix_end}
use Rattle.heap_map.proofs.Lemmas.Ranges.{count_by-all, count_by-none, count_by-same}
use Rattle.heap_map.proofs.laws.live_words_after.Goals as goal

pub returns-clause-below : goal.returns-clause-below
returns-clause-below c image valid from to below =
    count_by-same (is_live_word (compact image)) (is_live_word image) from (to - from) (λ q l k. c.live_word_after.ensures.below image valid q (omega arith))

pub returns-clause-moved : goal.returns-clause-moved
returns-clause-moved c image valid from to low high =
    count_by-all (is_live_word (compact image)) from (to - from) (λ q l k. c.live_word_after.ensures.moved image valid q (omega arith) (omega arith))

pub returns-clause-free : goal.returns-clause-free
returns-clause-free c image valid from to above =
    count_by-none (is_live_word (compact image)) from (to - from) (λ q l k. c.live_word_after.ensures.free image valid q (omega arith))

pub returns-clause-all : goal.returns-clause-all
returns-clause-all c image valid =
    let list = valid.live_list in
    let prefix = prefix_end image in
    let top = new_top image in
    let words = heap_words image in
    let law = c.live_word_after.ensures in
    let parts = c.live_words_by_blocks.ensures.parts in
    let low = c.regions_to_fill.ensures.prefix image list in
    let high = c.regions_to_fill.ensures.top image list in
    let below = count_by-same (is_live_word (compact image)) (is_live_word image) 0 (prefix - 0) (λ q l k. law.below image valid q (omega arith)) in
    let moved = count_by-all (is_live_word (compact image)) prefix (top - prefix) (λ q l k. law.moved image valid q l (omega arith)) in
    let free = count_by-none (is_live_word (compact image)) top (words - top) (λ q l k. law.free image valid q l) in
    let one = parts (compact image) 0 prefix words (omega arith) (omega arith) in
    let two = parts (compact image) prefix top words low high in
    let old = parts image 0 prefix words (omega arith) (omega arith) in
    let counted = c.new_top_by_counting.ensures image list in
    omega arith
