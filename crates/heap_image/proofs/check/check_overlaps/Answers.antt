use Rattle.std.proofs.Common.{◌≡◌, ℕ, get_or, refl, ◌∙◌, ap, arith}
use Rattle.object_heap.specs.Header.{size_of}
use Rattle.object_heap.specs.Layout.{Layout, size_in}
use Rattle.object_heap.specs.HeapImage.{heap_words, word_at}
use Rattle.heap_image.proofs.Lemmas.Objects.{overlaps_more, end_at}
use Rattle.heap_image.proofs.check.check_overlaps.Goals as goal

pub loop-a-preserved : goal.loop-a-preserved
loop-a-preserved c =
    let heap = c.args.heap.now in
    let live = c.args.live.now in
    let i = c.loop-a.a-index in
    record {
      end = end_at heap live (heap_words heap) i c.loop-a-test.true refl c.size_at.result c.size_at.ensures;
      overlap = overlaps_more heap live (heap_words heap) i c.loop-a-test.true refl c.loop-a.end c.loop-a.overlap c.or-overlap.result c.then_some.result c.loop-a.invariant.end c.loop-a.invariant.overlap c.then_some.ensures c.or-overlap.ensures;
    }

pub overflow_add-end : goal.overflow_add-end
overflow_add-end c =
    let heap = c.args.heap.now in
    let a : ℕ = get_or c.args.live.now c.loop-a.a-index 0 in
    let same : c.size_at.result ≡ size_of (word_at heap a) = c.size_at.ensures ∙ ap (λ (y : Layout). size_in y (word_at heap a)) c.own.ensures in
    let below = c.requires.inside c.loop-a.a-index 0 c.loop-a-test.true in
    let small = c.is_small.ensures in
    omega arith
