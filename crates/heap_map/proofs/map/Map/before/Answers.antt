use Rattle.std.proofs.Common.{◌≡◌, ◌∙◌, ◌+◌, ◌++◌, ◌∷◌, [], List, zero-add, length, ap, sym, arith}
use Rattle.std.specs.Prelude.{map}
use Rattle.std.specs.List.{range_with_len}
use Rattle.std.proofs.lemmas.List.FromFn.{length-map-range_with_len, map-range_with_len_more}
use Rattle.object_heap.specs.HeapImage.{HeapImage, heap_words, last_end, live_words}
use Rattle.summary.specs.NewAddresses.{prefix_end}
use Rattle.heap_map.specs.declared.cell.Cell.{Cell}
use Rattle.heap_map.specs.Cells.{cell_at, cell_start}
use Rattle.heap_map.proofs.Lemmas.Placed.{cell-same, starts-ascend}
use Rattle.heap_map.proofs.map.Map.before.Goals as goal

pub cell-requires : goal.cell-requires
cell-requires c =
    let up = starts-ascend (heap_words c.args.image.now) c.min-count.result c.loop-i.i (omega arith) in
    omega (arith, up, c.start_of-from.ensures.value, c.start_of-to.ensures.value)

pub loop-i-preserved : goal.loop-i-preserved
loop-i-preserved c =
    let image : HeapImage = c.args.image.now in
    let n = c.min-count.result in
    let i = c.loop-i.i in
    let cell_of = cell_at image (prefix_end image) (last_end image) n in
    let live = c.live_words-live.ensures ∙ ap (λ h. live_words h c.start_of-from.result c.start_of-to.result) (c.marks.ensures ∙ c.requires.same) in
    let is : c.cell.result ≡ cell_of i = c.cell.ensures ∙ cell-same image _ _ _ _ (prefix_end image) (last_end image) (cell_start (heap_words image) n i) (cell_start (heap_words image) n (i + 1)) _ (c.before-sketch.ensures.prefix) (c.before-sketch.ensures.top) c.start_of-from.ensures.value c.start_of-to.ensures.value live in
    c.in_ok-push.ensures.items
    ∙ ap (λ (cells : List Cell). cells ++ c.cell.result ∷ []) c.loop-i.invariant
    ∙ ap (λ (cell : Cell). map cell_of (range_with_len 0 i) ++ cell ∷ []) is
    ∙ sym (map-range_with_len_more cell_of 0 i i (zero-add i))

pub invariant_of-result : goal.invariant_of-result
invariant_of-result c =
    let image : HeapImage = c.args.image.now in
    let long = ap length c.loop-i.invariant ∙ length-map-range_with_len (cell_at image (prefix_end image) (last_end image) c.min-count.result) 0 c.loop-i.i in
    record { few = omega (arith, long) }
