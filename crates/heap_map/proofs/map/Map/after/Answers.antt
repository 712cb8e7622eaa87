use Rattle.std.proofs.Common.{◌≡◌, ◌∙◌, ◌+◌, ◌++◌, ◌∷◌, [], List, zero-add, length, ap, sym, arith}
use Rattle.std.specs.Prelude.{map}
use Rattle.std.specs.List.{range_with_len}
use Rattle.std.proofs.lemmas.List.FromFn.{length-map-range_with_len, map-range_with_len_more}
use Rattle.object_heap.specs.HeapImage.{HeapImage, heap_words, live_words}
use Rattle.summary.specs.Compaction.{compact, compacted_word}
use Rattle.summary.specs.NewAddresses.{new_top, prefix_end}
use Rattle.heap_map.specs.declared.cell.Cell.{Cell}
use Rattle.heap_map.specs.Cells.{cell_at, cell_start}
use Rattle.heap_map.proofs.Lemmas.Placed.{cell-same, starts-ascend}
use Rattle.heap_map.proofs.map.Map.after.Goals as goal

pub cell-requires : goal.cell-requires
cell-requires c =
    let up = starts-ascend (heap_words c.args.image.now) c.min-count.result c.loop-i.i (omega arith) in
    omega (arith, up, c.start_of-from.ensures.value, c.start_of-to.ensures.value)

pub live_after-live-requires-clause-ordered : goal.live_after-live-requires-clause-ordered
live_after-live-requires-clause-ordered c =
    let up = starts-ascend (heap_words c.args.image.now) c.min-count.result c.loop-i.i (omega arith) in
    omega (arith, up, c.start_of-from.ensures.value, c.start_of-to.ensures.value)

pub loop-i-preserved : goal.loop-i-preserved
loop-i-preserved c =
    let image : HeapImage = c.args.image.now in
    let n = c.min-count.result in
    let i = c.loop-i.i in
    let cell_of = cell_at (compact image) (prefix_end image) (new_top image) n in
    let words : heap_words (compact image) ≡ heap_words image = length-map-range_with_len (compacted_word image) 0 (heap_words image) in
    let live = c.live_after-live.ensures ∙ ap (λ h. live_words (compact h) c.start_of-from.result c.start_of-to.result) c.requires.same in
    let is : c.cell.result ≡ cell_of i = c.cell.ensures ∙ cell-same (compact image) _ _ _ _ (prefix_end image) (new_top image) (cell_start (heap_words (compact image)) n i) (cell_start (heap_words (compact image)) n (i + 1)) _ (c.after-sketch.ensures.prefix ∙ ap prefix_end c.requires.same) (c.after-sketch.ensures.top ∙ ap new_top c.requires.same) (c.start_of-from.ensures.value ∙ ap (λ w. cell_start w n i) (sym words)) (c.start_of-to.ensures.value ∙ ap (λ w. cell_start w n (i + 1)) (sym words)) live in
    c.in_ok-push.ensures.items
    ∙ ap (λ (cells : List Cell). cells ++ c.cell.result ∷ []) c.loop-i.invariant
    ∙ ap (λ (cell : Cell). map cell_of (range_with_len 0 i) ++ cell ∷ []) is
    ∙ sym (map-range_with_len_more cell_of 0 i i (zero-add i))

pub invariant_of-result : goal.invariant_of-result
invariant_of-result c =
    let image : HeapImage = c.args.image.now in
    let long = ap length c.loop-i.invariant ∙ length-map-range_with_len (cell_at (compact image) (prefix_end image) (new_top image) c.min-count.result) 0 c.loop-i.i in
    record { few = omega (arith, long) }
