use Rattle.std.proofs.Common.{◌-◌, arith}
use Rattle.std.specs.List.{range_with_len}
use Rattle.std.proofs.lemmas.List.FromFn.{length-range_with_len}
use Rattle.std.proofs.lemmas.List.Sums.{count_by-le-length}
use Rattle.object_heap.specs.HeapImage.{is_live_word}
use Rattle.heap_map.proofs.bands.band_between.Goals as goal

pub overflow_add-target : goal.overflow_add-target
overflow_add-target c =
    let start = c.prefix_end-start.result in
    let from = c.args.from in
    let most = count_by-le-length (is_live_word c.marks.result.now) (range_with_len start (from - start)) in
    let long = length-range_with_len start (from - start) in
    omega (arith, c.live_words.ensures, most, long, c.if-from-start.false, c.ranges.from)
